-- What the contracts of this crate say of the bytes at hand.
pub mod Standing
