pub mod Literal
pub mod Laws
