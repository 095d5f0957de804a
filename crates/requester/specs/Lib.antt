-- The main processor's end: its meaning in document 02's words, then the lent parts and what each call answers and leaves.
-- Assumes nothing.
pub mod Limits
pub mod State
pub mod Requester
pub mod Layout
pub mod Valid
pub mod Number
pub mod Calls
pub mod Progress
pub mod Hearing
