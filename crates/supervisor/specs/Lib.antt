-- The supervisor: its meaning in document 01's words, then the lent parts and what each call answers and leaves.
-- Assumes nothing.
pub mod Limits
pub mod State
pub mod Local
pub mod Layout
pub mod Valid
pub mod Number
pub mod Calls
