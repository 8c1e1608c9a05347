-- What `omega` knows of a test that the code made: the answer of a comparison as an inequality.
use native.Mathlib.Omega.{arith}
use borrow.Author.Tests.{ltb-true, ltb-false, leb-true, leb-false, eqb-true}

pub ruleset flags = (arith, ltb-true, ltb-false, leb-true, leb-false, eqb-true)
