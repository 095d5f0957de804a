-- Definitions of what a request means, of what the calls that receive answer, leave and count, and of the replay of a stream.
-- Assumes nothing.
pub mod Commands
pub mod Kinds
pub mod Requests
pub mod Receive
pub mod Stores
pub mod Counting
pub mod Replay
