pub mod PeakHolds
