-- Laws of steps.
pub mod Reach
pub mod Stepping
