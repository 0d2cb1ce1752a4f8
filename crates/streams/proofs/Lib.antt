pub mod Stream
pub mod Staged
pub mod Leading
pub mod Instance
pub mod Alike
pub mod Written
pub mod OneOrder
pub mod AsBefore
