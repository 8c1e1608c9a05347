-- HOW THE PROOFS GO. The propositional `Fits` stands in the middle: the definitions' test is shown to decide it, and so
-- are remainders; so the two tests hold at the same time, and are equal.
--   Either      tests of which one holds or the other; two tests that hold at the same time are equal
--   Cuts        `cut`, `times` and `up_to_lem` find just what there is; empty texts can be left out of a number of texts
--   Textbook    `textbook`: by recursion on the pattern, both ways
--   Plain       `and_then` and `or_else` fit what `then` and `or` fit
--   Remainder   `remainders`: of `Fits` by recursion on the pattern, both ways; then of the test, by `textbook`
--   Examples    computed texts, and wrong readings refuted by a text
pub mod Either
pub mod Cuts
pub mod Textbook
pub mod Plain
pub mod Remainder
pub mod Examples
