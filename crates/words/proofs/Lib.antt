pub mod Views
pub mod Contents
pub mod Tests
