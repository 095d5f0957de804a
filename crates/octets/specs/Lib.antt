-- The definitions of the byte layer: bytes, little-endian numbers, runs and overlays; places; and the tests of a call in their order.
-- Assumes nothing.
pub mod Bytes
pub mod Places
pub mod TableTests
