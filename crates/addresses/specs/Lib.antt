-- The definitions of the address plan, and what is claimed of it.
-- Assumes nothing.
pub mod Addresses
pub mod Item9
