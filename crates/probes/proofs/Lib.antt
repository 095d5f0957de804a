-- The laws of the probe list, what they say of each record, and samples.
-- Assumes nothing.
pub mod Changes
pub mod Records
pub mod Samples
pub mod Tests
pub mod Updates
pub mod Proved
