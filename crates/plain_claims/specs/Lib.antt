-- What is claimed of the plain reader, in the order in which to read it.
-- First come the samples, then agreement with a line reader, then the statements of `Item13`.
-- proofs/ has one element of that record. Assumes nothing.
pub mod Samples
pub mod Agreement
pub mod Item13
