-- Laws of the supervisor's definitions, which the proofs of its functions and the claims cite.
-- Assumes nothing.
pub mod Cases
pub mod OffsetLaws
pub mod ValidLaws
pub mod AllLaws
pub mod KeptRegisters
pub mod StartLaws
pub mod OutboxLaws
pub mod AlertLaws
pub mod HighestBit
pub mod KeyLaws
