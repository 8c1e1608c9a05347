-- What the proofs of the functions share.
pub mod Lists
pub mod Marks
pub mod Matching
pub mod Moves
pub mod Reports
pub mod Stores
pub mod Ways
