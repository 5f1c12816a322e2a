pub mod Models
pub mod Smallness
