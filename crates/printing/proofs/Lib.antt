-- Laws that the proofs of this crate cite.
pub mod Printed
pub mod Taking
pub mod Within
pub mod Calls
