-- The plain reader: the listing of a stream, and what each call answers and leaves.
-- Assumes nothing.
pub mod Listing
pub mod Answers
pub mod Inner
