-- What the contracts cite.
-- the order and the peak of a subtree
pub mod Joining
pub mod Arranging
-- the tasks that the root reaches
pub mod Reaching
-- the order written
pub mod Writing
pub mod Finding
