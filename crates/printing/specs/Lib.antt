-- What the contracts of this crate say of a turn.
pub mod Verdict
pub mod Taken
