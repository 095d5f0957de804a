-- The definitions that the contracts of lines cite.
-- Assumes nothing.
pub mod Fields
pub mod Pieces
pub mod Digest
