-- What is claimed of saving and restoring, in the order in which to read it: the samples, then the statements of `Item11`.
-- proofs/ has one element of that record. Assumes nothing.
pub mod Samples
pub mod Item11
