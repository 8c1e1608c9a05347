-- The table is the automaton of the rules. A state is the list of rules that can still match after some text;
-- Words.antt has such a text for each state. That an entry is the next state, that a state's kind and callback are
-- those of the first rule that matches in it, and which states do not go on, is computed (States.antt), by tests that
-- are sound by Every.antt (a test at every place) and Same.antt (equality of rules). Of the bytes that the rules do not
-- tell apart one is computed (Alike.antt, Bytes.antt). From that follow the entry of any state and byte (Entries.antt),
-- one byte of a scan (Law.antt), and a turn of the lexer's loops, which hold rows and places (Turns.antt). Parts.antt
-- and Looks.antt have what the functions read: where each list stands in the table, and what is found there. Ties.antt:
-- `one_rule`, `no_ties`: a text fits one rule at most, since in each state one matches at most, and since a byte that
-- is read does not change how many rules fit (Counts.antt); Examples.antt has rules with ties, which that excludes.
pub mod Words
pub mod Every
pub mod Parts
pub mod Looks
pub mod Same
pub mod Alike
pub mod States
pub mod Bytes
pub mod Entries
pub mod Law
pub mod Turns
pub mod Counts
pub mod Ties
pub mod Examples
