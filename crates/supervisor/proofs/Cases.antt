-- What settles a contract by cases: each test of a definition is rewritten to its value, from the facts that the code's tests left.
-- Assumes nothing.
use borrow.Author.Tests.{le-ltb, lt-ltb, eq-eqb, ne_eqb}

pub ruleset cases = (le-ltb, lt-ltb, eq-eqb, ne_eqb)
