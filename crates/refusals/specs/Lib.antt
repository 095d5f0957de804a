-- Definitions of why a call is refused.
-- Assumes nothing.
pub mod Refusals
