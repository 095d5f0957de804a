-- Limits to Judge have the meaning of the line layer in document 01's order. Columns, Runs and Decoding have what the code's own contracts
-- cite, and Item3 what is claimed of blocks. Reader and Writer have what each public call answers and leaves, and ReaderLayout which byte
-- of the reader's state is where. Assumes nothing.
pub mod Limits
pub mod Numbers
pub mod Checksum
pub mod Message
pub mod Cobs
pub mod Frame
pub mod Judge
pub mod Columns
pub mod Item3
pub mod Runs
pub mod Decoding
pub mod ReaderLayout
pub mod Reader
pub mod Writer
