pub mod Deciding
pub mod Standing
