pub mod Lengths
pub mod Parts
pub mod Printed
pub mod Stepped
