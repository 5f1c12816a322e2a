pub mod Systems
pub mod Descents
pub mod Examples
