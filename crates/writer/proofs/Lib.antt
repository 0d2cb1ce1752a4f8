-- Laws of the writer.
pub mod Reading
pub mod Turning
pub mod Ordered
