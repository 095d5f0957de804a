-- The laws of saving and restoring, and the proofs of their functions.
-- Assumes nothing.
pub mod StepLaws
pub mod ReadLaws
pub mod StoreLaws
pub mod RestoreLaws
pub mod ImageLaws
pub mod KeptLaws
