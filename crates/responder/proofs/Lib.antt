-- Laws that the proofs of requests cite.
-- Assumes nothing.
pub mod SendingLaws
pub mod CommandLaws
pub mod RecordLaws
pub mod TakenLaws
pub mod ReceiveLaws
pub mod KeptLaws
pub mod VerdictLaws
pub mod StepLaws
pub mod StoreLaws
pub mod CountLaws
