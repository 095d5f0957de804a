-- The definitions that the contracts of the replay program cite.
-- Assumes nothing.
pub mod Feed
