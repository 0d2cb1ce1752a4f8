-- What the contracts of this crate say of more input, of lines that were not all written, and of what is told then.
pub mod Filled
pub mod Written
pub mod Message
