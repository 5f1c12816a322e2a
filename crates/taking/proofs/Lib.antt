pub mod Largest
mod Initiating
mod Choosing
