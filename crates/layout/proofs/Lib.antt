pub mod Sound
pub mod Ends
pub mod Parts
pub mod Law
pub mod Cut
