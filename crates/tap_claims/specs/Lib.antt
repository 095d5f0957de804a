-- What is claimed of a tap on a supervisor's wire, in the order in which to read it: captures of calls, moments, then the statements.
-- proofs/Proved has one element of the record of statements. Assumes nothing.
pub mod Captures
pub mod Moments
pub mod Claims
