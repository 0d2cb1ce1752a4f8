-- Laws of what is kept of a day: of rows and entries, of children that have not ended, of figures, and of what is in use.
pub mod Rows
pub mod Entries
pub mod Unended
pub mod Figures
pub mod Using
pub mod Idle
pub mod Same
pub mod InStore
pub mod Ready
pub mod Writing
