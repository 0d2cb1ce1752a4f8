pub mod Meaning
pub mod Sound
pub mod Told
pub mod ValidPlan
