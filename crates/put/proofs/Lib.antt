-- Laws that the proofs of the functions cite.
pub mod Pieces
pub mod Pages
pub mod Digits
