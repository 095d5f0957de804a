-- Definitions of what the calls of the C interface return and leave.
-- Assumes nothing.
pub mod Answers
pub mod LineCalls
pub mod SupervisorCalls
pub mod SavingCalls
pub mod ReceiveCalls
pub mod AddressCalls
pub mod ProbeCalls
pub mod RotCalls
pub mod RequesterCalls
