-- Definitions of how a frame ended, and of the counter block.
-- Assumes nothing.
pub mod Ended
pub mod Count
