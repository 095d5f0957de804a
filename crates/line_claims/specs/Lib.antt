-- What is claimed of the line layer, in the order in which to read it: definitions, then `Demand1`, `Demand3`, `Item6` and `Item12`.
-- proofs/Proved has one element of each record of theirs. Assumes nothing.
pub mod Samples
pub mod Loans
pub mod Calls
pub mod Changes
pub mod Demand1
pub mod Demand3
pub mod Item6
pub mod Item12
pub mod Item14
