-- HOW THE PROOFS GO. A setting is asked only for the Names that it reports: none in the old one, in any other those
-- that the definitions judge (`judged`) and that break the rule (`breaking`).
--   AsItWas      `as_it_was`: no Name is reported, and nothing is appended
--   Beside       a call beside the old setting's: the same; or 7, where the old one comes to cause 8; or both accepted
--   ReportRows   the report rows of an accepted call: those of the run, then those of Names; how many they are
--   Settings     `one_strict_setting`, `leaves_tree_alone`, `same_refusals`, `old_refusals`, read off these two
--   Rule         the tests of the definitions say what specs/Exactly.antt words
--   Listed       members of a list by index, what holds of all, Names whose first tokens rise
--   Judged       by induction over the tree: what is judged is found in the tree's rows, both ways, and rises
--   Breaking     the same of those that break the rule, and which row is whose
--   Exactly      `exactly`: joined for an accepted call, whose rows read back are the tree's (laws' Decode, Lossless)
--   Witnesses, Refutations   computed calls that meet the premises; wrong answers that do not meet the conclusions
pub mod AsItWas
pub mod Beside
pub mod ReportRows
pub mod Settings
pub mod Rule
pub mod Listed
pub mod Judged
pub mod Breaking
pub mod Exactly
pub mod Witnesses
pub mod Refutations
