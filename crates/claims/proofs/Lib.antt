-- The proofs of what a customer may hold this repository to.
-- Assumes nothing.
pub mod Proved
