-- Laws of booking ahead: one turn on lists, a task that becomes booked, one turn on what is kept, one turn after the other.
pub mod Turn
pub mod Activating
pub mod Booking
pub mod Ahead
