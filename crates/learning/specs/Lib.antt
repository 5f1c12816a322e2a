pub mod Learning
pub mod Minimal
