-- Each call, and each request that is received, on the bytes of the parts: what document 01 has of it.
-- Assumes nothing.
pub mod StartClaim
pub mod RowLaws
pub mod TakeClaim
pub mod RegistersClaim
pub mod LookupClaim
pub mod SavingClaim
pub mod LocalLaws
pub mod SendingClaim
pub mod AnswersClaim
pub mod CommandClaims
pub mod ReceivedClaim
pub mod ReceiveClaim
pub mod StepClaim
pub mod CallClaims
pub mod LineReads
