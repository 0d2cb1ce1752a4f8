pub mod Kind
pub mod Standing
pub mod Booking
pub mod Invariant
