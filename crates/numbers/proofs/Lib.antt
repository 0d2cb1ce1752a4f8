pub mod Tests
pub mod Sums
pub mod Counts
pub mod Lowest
pub mod Places
