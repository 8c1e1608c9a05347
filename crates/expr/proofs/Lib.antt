-- What the proofs of the functions share.
pub mod Levels
pub mod Chain
pub mod Turns
