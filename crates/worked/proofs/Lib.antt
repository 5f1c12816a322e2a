pub mod Deciding
pub mod Outcomes
pub mod Descending
pub mod Giving
pub mod Following
pub mod Exchanging
pub mod Staged
