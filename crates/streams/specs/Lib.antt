pub mod Instance
pub mod Write
pub mod Stream
pub mod WriteHolds
pub mod OneOrder
