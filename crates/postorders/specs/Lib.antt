pub mod Postorder
pub mod Find
pub mod FindHolds
