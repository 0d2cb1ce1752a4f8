-- What the contract of a step says.
pub mod Stepped
