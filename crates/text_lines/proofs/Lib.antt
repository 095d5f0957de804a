-- The laws of lines and pieces, and the proofs of the functions.
-- Assumes nothing.
pub mod Laws
