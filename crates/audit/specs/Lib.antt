-- The audit program's text.
-- Assumes nothing.
pub mod Text
