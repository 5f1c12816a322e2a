pub mod Literals
pub mod Systems
pub mod Laws
pub mod Spelling
pub mod Preserving
