-- What the proofs of the functions share.
pub mod Chains
pub mod Opened
