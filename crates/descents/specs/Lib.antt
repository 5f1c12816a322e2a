pub mod Codes
pub mod Outcomes
