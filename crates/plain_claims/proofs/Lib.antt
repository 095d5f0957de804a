-- Laws behind the plain reader's claims; `Proved` has the claims themselves.
-- Assumes nothing.
pub mod Samples
pub mod Agreement
pub mod CutReads
pub mod Repeated
pub mod Proved
