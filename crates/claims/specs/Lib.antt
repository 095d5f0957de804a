-- What a customer may hold this repository to.
-- Assumes nothing.
pub mod Claims
