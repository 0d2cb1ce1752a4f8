pub mod Rows
pub mod Cached
pub mod Kept
pub mod Store
pub mod AtRest
