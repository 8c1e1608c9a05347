-- What the proofs of the functions share.
pub mod Opened
pub mod Tokens
