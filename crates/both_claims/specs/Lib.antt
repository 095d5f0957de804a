-- What is claimed of both ends of the wire, in the order in which to read it: definitions, then `BothEnds`.
-- proofs/Proved has one element of each record of it. Assumes nothing.
pub mod Ends
pub mod Pending
pub mod RoundTrip
pub mod Exchanges
pub mod AlertsTaken
pub mod SetThenGot
pub mod Witness
pub mod BothEnds
