-- The laws of the audit program's text, and the proofs of its functions.
-- Assumes nothing.
pub mod Digits
pub mod Lines
pub mod Reading
