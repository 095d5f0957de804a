-- Laws behind the supervisor's claims: of the parts, of the definitions, of one call or request, and over lists of calls.
-- `Proved` has the claims themselves. Assumes nothing.
pub mod ByPart
pub mod Meant
pub mod Sound
pub mod laws
pub mod calls
pub mod claims
pub mod TwoRuns
pub mod Proved
