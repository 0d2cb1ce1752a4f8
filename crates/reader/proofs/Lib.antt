-- What is proved of moving on.
pub mod Next
