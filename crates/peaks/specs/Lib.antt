pub mod Desk
pub mod PeakHolds
