pub mod Consecution
pub mod Written
pub mod Asked
