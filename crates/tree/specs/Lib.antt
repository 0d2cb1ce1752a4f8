pub mod Tree
pub mod Need
pub mod Peak
pub mod Tasks
