-- What the proofs of the functions share.
pub mod Moves
pub mod Said
