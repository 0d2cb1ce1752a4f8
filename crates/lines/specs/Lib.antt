-- What the contracts of this crate say of a line.
pub mod Line
