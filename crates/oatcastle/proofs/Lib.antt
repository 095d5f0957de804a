-- Laws of the C interface's definitions, which the proofs of its functions cite.
-- Assumes nothing.
mod AnswerLaws
mod AddressLaws
mod RequesterLaws
