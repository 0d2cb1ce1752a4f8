-- Laws of 03 and 04.
pub mod Placing
pub mod Ordering
pub mod Appending
pub mod Copying
