-- Laws of the definitions, which the claims cite.
-- Assumes nothing.
pub mod ViewLaws
pub mod GoodStart
pub mod RegisterLaws
pub mod PostLaws
pub mod PartLaws
pub mod SettingLaws
pub mod SavingLaws
pub mod AlikeLaws
pub mod RecordLaws
pub mod TakenLaws
pub mod Locality
pub mod Progress
pub mod CallsKeep
pub mod TakenAll
