pub mod Number
pub mod Bytes
