pub mod Climb
pub mod Ended
pub mod Finished
