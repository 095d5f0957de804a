-- The wiretap, in the order in which to read it: a capture and its frames, the numbers that frames earn, what is known of the
-- supervisor, what a reply is accused of, and the machine that goes through the frames. Assumes nothing.
pub mod Capture
pub mod Earned
pub mod Known
pub mod Accused
pub mod Tap
