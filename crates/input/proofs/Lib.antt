-- What the proofs of the functions share.
pub mod RowChecks
pub mod Texts
