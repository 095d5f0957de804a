-- The definitions of the probe list, and what is claimed of it.
-- Assumes nothing.
pub mod Probes
pub mod Samples
pub mod Item4
