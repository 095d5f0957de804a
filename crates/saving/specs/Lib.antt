-- Saving the settings: what an image is and what each call answers and leaves.
-- Assumes nothing.
pub mod Saving
pub mod Calls
