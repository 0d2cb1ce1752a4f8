pub mod Kept
pub mod Layout
pub mod Views
pub mod Contents
pub mod Digits
pub mod Marks
