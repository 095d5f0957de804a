-- What is claimed of the root-of-trust link, in the order in which to read it: the samples, then the statements of `Item7`.
-- proofs/ has one element of that record. Assumes nothing.
pub mod Samples
pub mod Item7
