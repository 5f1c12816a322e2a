pub mod Truth
pub mod Runs
pub mod Bits
pub mod Spelled
pub mod Numbers
pub mod Preserving
pub mod Sizes
