-- What the contracts cite.
-- what a survey asks and answers
pub mod Survey
-- what its loops count and sum up
pub mod Checks
pub mod Level
-- the figures that a day begins with
pub mod Prepare
