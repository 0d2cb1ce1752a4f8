pub mod Why
pub mod WhyHolds
