pub mod Parts
pub mod Stored
pub mod Storages
