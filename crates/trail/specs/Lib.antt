pub mod Decisions
pub mod Entries
pub mod Changes
pub mod Reasons
