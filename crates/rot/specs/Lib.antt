-- The root-of-trust link of document 02's item 7 and source document 003: its meaning, and what each public call says and leaves.
-- Table is what the contract of the constant table cites. Assumes nothing.
pub mod Limits
pub mod Crc
pub mod Table
pub mod Message
pub mod Answers
pub mod Reading
pub mod Writing
