-- What is proved of a survey and of the figures that a day begins with.
-- words of a row, and of the order, as entries of columns
pub mod Reading
-- a count over the tasks, and grounds 7 and 8 by such counts
pub mod Counting
pub mod Grounds
-- the level of a store
pub mod Feeding
pub mod Running
-- BEGIN's figures: one task added to them, the sums over the tasks, and a day on which nothing has happened
pub mod Adding
pub mod Weighing
pub mod Nothing
pub mod Beginning
