-- What the contracts cite.
-- the scratch array, and lists of links in it
pub mod Scratch
pub mod Links
pub mod Linked
-- the children of every task, and those of one by falling key
pub mod Listing
pub mod Sorting
pub mod Merging
