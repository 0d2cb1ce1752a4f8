-- What the contracts cite.
-- the caller's records as those of the rules
pub mod Records
-- the plan that is written from them
pub mod Room
