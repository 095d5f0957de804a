-- The laws of the address plan, which the proofs of its functions cite.
-- Assumes nothing.
pub mod Carry
pub mod Number
pub mod Plans
pub mod PlanAnswers
pub mod Proved
