-- What is proved of lexing, in reading order.
pub mod ByRules
pub mod Joined
pub mod RowsPass
pub mod Scan
