pub mod Going
pub mod Stores
pub mod Holds
pub mod Staying
pub mod Refusals
pub mod Askings
pub mod Theorem
