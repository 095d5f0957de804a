-- What is claimed of the supervisor, in the order in which to read it.
-- Definitions: the parts, the view of them, the local calls as a table, calls, frames, sets, alerts, replies, runs.
-- Statements: `Demand1`, `Demand2`, `Item1`, `Item4`, `Item5`, `Item11`, `Item14`; proofs/Proved has one element of each. Assumes nothing.
pub mod ByPart
pub mod View
pub mod Sound
pub mod LocalCalls
pub mod Histories
pub mod FrameHistory
pub mod MixedCalls
pub mod LastSet
pub mod SameEdition
pub mod Alerts
pub mod Replies
pub mod TwoRuns
pub mod Forgets
pub mod TwoPassphrases
pub mod Demand1
pub mod Demand2
pub mod Item1
pub mod Item4
pub mod Item5
pub mod Item11
pub mod Item14
