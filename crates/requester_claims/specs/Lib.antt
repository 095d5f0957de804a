-- What is claimed of the main processor's end, in the order in which to read it: definitions, then `Item2`, `Demand1` and `Item6`.
-- proofs/Proved has one element of each record of theirs. Assumes nothing.
pub mod View
pub mod Histories
pub mod Cuts
pub mod Numbers
pub mod Answers
pub mod CameAs
pub mod Item2
pub mod Demand1
pub mod Item6
pub mod Item14
