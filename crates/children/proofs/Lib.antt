-- What the proofs of the functions cite.
-- lists of links, and the children of every task
pub mod Following
pub mod Storing
pub mod Tails
pub mod Walking
pub mod Listed
-- the children of a task by falling key, by merging
pub mod Falling
pub mod Keys
pub mod Threads
pub mod Merges
pub mod Halves
pub mod SortedChildren
