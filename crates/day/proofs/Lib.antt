-- Laws of BEGIN, DONE, 08 and FETCH.
pub mod Same
pub mod Advancing
pub mod Staying
pub mod Proceeding
pub mod Days
pub mod Surveying
pub mod Beginning
pub mod Reporting
pub mod Closing
pub mod Fetching
pub mod Resizing
