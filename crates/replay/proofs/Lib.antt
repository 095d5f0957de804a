-- The laws of the replay of a stream, and the proofs of the program's functions.
-- Assumes nothing.
pub mod Taking
pub mod Feeding
pub mod Streaming
