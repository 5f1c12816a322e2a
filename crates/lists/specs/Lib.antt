pub mod Spelling
pub mod Lists
