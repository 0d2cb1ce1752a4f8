-- Laws of the command function, and of a new plan.
pub mod Responding
pub mod NewPlan
