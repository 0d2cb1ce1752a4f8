pub mod Advanced
pub mod Day
