pub mod Minimal
pub mod Learned
