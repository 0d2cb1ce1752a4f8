pub mod Computing
pub mod Marked
pub mod Worked
pub mod WorkedOrder
pub mod WorkedStream
