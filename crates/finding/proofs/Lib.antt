-- What the proofs of the functions cite.
-- the order and the peak of a subtree, and those of all
pub mod Linking
pub mod Weighing
pub mod Found
pub mod Turn
pub mod Turns
-- the tasks that the root reaches
pub mod Queueing
pub mod Reached
pub mod Rooted
-- the order written, and what is answered
pub mod Written
pub mod Whole
pub mod Root
pub mod Told
