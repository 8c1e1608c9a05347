-- What the proofs of the functions share.
pub mod Runs
pub mod TextCalls
