-- Laws behind the field counters' claims, in the order in which they build on each other; `Proved` has the claims themselves.
-- Assumes nothing.
pub mod TallyLaws
pub mod FrameLaws
pub mod CallCounts
pub mod Item8
pub mod Item14
pub mod CountedPassphrases
pub mod Proved
