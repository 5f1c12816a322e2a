pub mod Replies
pub mod Codes
