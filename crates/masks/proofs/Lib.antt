pub mod Sets
pub mod Meaning
pub mod Asked
