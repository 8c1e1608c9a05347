-- HOW THE PROOFS GO.
--   Directives    `is_directive` finds what the statement calls a directive
--   Offsets       `high_byte` and `directive` find the lowest offset, one induction over bytes, one over tokens
--   Judged        so `lower` finds the lower of both; there is one such verdict only
--   Called        each way that a call goes, once, with what holds there; the tokens' rows pass
--                 (lexing's `rows_pass`), so they are answered with 0 or 5 to 8 (refusals' `late`)
--   Plain, TextRefusals, TextAnswered   read off it: `accepted_is_plain`, `text_refusals`, `text_answered`
--   TextsLocal    a lexer starts again after a token; with recovery's `stays_local`: `texts_stay_local`
--   Examples      texts on both sides of each sentence, computed; results that the statements exclude
pub mod Directives
pub mod Offsets
pub mod Judged
pub mod Called
pub mod Plain
pub mod TextRefusals
pub mod TextAnswered
pub mod TextsLocal
pub mod Examples
