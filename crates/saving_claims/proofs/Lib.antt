-- Laws behind the claims of saving and restoring, in the order in which they build on each other; `Proved` has the claims themselves.
-- Assumes nothing.
pub mod Samples
pub mod RecordLaws
pub mod EntryLaws
pub mod Item11
pub mod Proved
