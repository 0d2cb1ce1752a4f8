pub mod Sums
pub mod Lists
pub mod Limits
