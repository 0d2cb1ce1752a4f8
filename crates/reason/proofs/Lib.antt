-- Laws of the reasons.
pub mod Reading
pub mod Waiting
