-- What the contracts of the decoder cite.
pub mod Meaning
