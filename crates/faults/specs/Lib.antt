pub mod Refusals
pub mod Firsts
