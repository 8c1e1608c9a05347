-- HOW THE PROOFS GO. All of it goes by the first token of a text and what follows.
--   Lengths    a token has a byte at least and ends inside the text; an induction over tokens; `token_at` for loops
--   Joined     `joined`: so the lengths add up to the text's, and what is cut off gives back the text
--   Best       the definitions' search finds the first rule that fits at the greatest length, or shows that none fits
--   ByRules    `by_rules`: that wins, by the textbook's meaning of patterns; two winners are one, so no other list is
--   Spelled    a rule whose kind has a static text matches that text alone: a test, computed over the rules
--   RowsPass   `rows_pass`: so each row and each text passes
--   Scan       `scans`: one scan over the text finds the longest match; ByScan: so a text's call is quicker to compute
--   Examples   texts with their tokens, computed; tokens, rules and rows that the statements exclude
pub mod Lengths
pub mod Joined
pub mod Best
pub mod ByRules
pub mod Spelled
pub mod RowsPass
pub mod Scan
pub mod ByScan
pub mod Examples
