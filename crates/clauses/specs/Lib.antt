pub mod Reading
pub mod Read
pub mod Candidates
