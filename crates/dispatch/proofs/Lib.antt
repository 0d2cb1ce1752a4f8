-- Laws of sharing out: of the climb and of the end of a task.
pub mod Way
pub mod Cells
pub mod Turns
pub mod Feeding
pub mod Ending
pub mod Finishing
