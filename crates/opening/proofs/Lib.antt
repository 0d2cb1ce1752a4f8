-- Laws of PLAN and STEP.
pub mod Clearing
pub mod Opening
pub mod Past
pub mod Adding
