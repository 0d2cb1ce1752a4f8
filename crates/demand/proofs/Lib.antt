-- The proof of demand 3.
pub mod Opened
pub mod Followed
pub mod ReadBack
pub mod Given
pub mod Demand
pub mod WorkedCalls
