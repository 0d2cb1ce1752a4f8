-- What the proofs cite.
-- the order: its entries are tasks, and none stands twice
mod Listing
mod Ranking
-- the rows of the tasks, and the tasks of the records
mod Rowing
mod Records
-- the checks in their order, and the survey
mod Surveying
