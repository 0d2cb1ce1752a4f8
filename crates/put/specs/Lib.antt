-- What the contracts of this crate say of a text and the buffer that it is put into.
pub mod Written
pub mod Put
pub mod Pages
