-- What is claimed of the field counters, in the order in which to read it.
-- First come calls that are lent counter blocks, and two runs of them with passphrases of their own.
-- Then come the statements of `Item8` and `Item14`.
-- proofs/ has one element of each record of theirs. Assumes nothing.
pub mod CountHistory
pub mod CountedPassphrases
pub mod Item8
pub mod Item14
