pub mod Entries
pub mod Meanings
pub mod Binary
mod Written
mod Loaded
pub mod Ruled
pub mod Rooms
pub mod Consistent
