pub mod Entries
pub mod Books
pub mod Targets
