pub mod Calls
pub mod Histories
pub mod Reads
pub mod Laws
pub mod Promises
