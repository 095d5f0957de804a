-- The laws of the plain reader, and the proofs of its functions.
-- Assumes nothing.
pub mod Offsets
pub mod Steps
pub mod Groups
pub mod Tests
