-- Laws of the main processor's definitions, which the proofs of its functions and the claims cite.
-- Assumes nothing.
pub mod Cases
pub mod ValidLaws
pub mod ProgressLaws
pub mod ReaderLaws
pub mod SettlingLaws
pub mod SendingLaws
pub mod ReceiveLaws
