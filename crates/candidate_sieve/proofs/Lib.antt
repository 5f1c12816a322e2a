pub mod Adding
pub mod Denied
pub mod Asking
pub mod Unmarking
pub mod Reading
pub mod Siftings
