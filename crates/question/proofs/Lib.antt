-- Laws of the questions.
pub mod Counting
pub mod Questions
