pub mod Marks
pub mod Sieves
pub mod Trims
