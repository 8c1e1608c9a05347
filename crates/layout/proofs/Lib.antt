-- What the proofs here, and those of the crates above, share.
pub mod Room
