-- The laws of the byte layer, and the proofs of its functions.
-- Assumes nothing.
pub mod Each
pub mod Equal
pub mod Numbers
pub mod Overlay
pub mod Zeros
pub mod Parts
pub mod SameBytes
pub mod Conditions
