-- Laws of the root-of-trust link's definitions, which the proofs of its functions and the claims cite.
-- Assumes nothing.
pub mod Xor
pub mod TableRule
pub mod Register
pub mod Message
pub mod Reading
