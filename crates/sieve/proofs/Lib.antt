pub mod Marked
pub mod MarksChecked
pub mod Descents
pub mod Reducing
pub mod Trims
