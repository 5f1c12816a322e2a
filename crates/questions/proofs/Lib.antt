pub mod Whole
mod Valuations
mod Initials
mod Joins
