-- Laws that the proofs of this crate cite.
pub mod Refilling
pub mod Growing
pub mod Holding
pub mod Remaining
pub mod Printing
