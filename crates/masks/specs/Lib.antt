pub mod Masks
pub mod Standings
pub mod Questions
