pub mod Phase
pub mod State
pub mod Grounds
pub mod Obey
pub mod Answer
pub mod Question
pub mod Day
pub mod Reachable
