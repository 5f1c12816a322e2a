pub mod Spelled
pub mod Left
