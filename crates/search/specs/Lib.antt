pub mod Chains
pub mod Looks
pub mod Searches
pub mod Watched
