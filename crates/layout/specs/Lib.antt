pub mod Spelling
pub mod Reading
pub mod Headers
pub mod Sections
