pub mod Candidates
pub mod Laws
pub mod Questions
pub mod Read
