-- What the proofs of all crates share.
pub mod Flags
pub mod Tests
pub mod Below
pub mod WordSet
pub mod Texts
pub mod Lists
pub mod Verdicts
pub mod TokenRows
