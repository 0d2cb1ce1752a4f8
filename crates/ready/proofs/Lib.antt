pub mod Digits
pub mod Marks
pub mod Changing
