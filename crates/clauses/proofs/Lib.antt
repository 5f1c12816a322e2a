pub mod Found
pub mod Wellformed
pub mod Gathered
pub mod CandidateLaw
