-- Laws behind the root-of-trust link's claims; `Proved` has the claims themselves.
-- Assumes nothing.
pub mod Samples
pub mod ReadBack
pub mod LinkRefusals
pub mod Proved
