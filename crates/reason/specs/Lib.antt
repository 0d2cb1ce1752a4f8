pub mod Meaning
pub mod Asked
