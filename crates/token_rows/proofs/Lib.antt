-- What the proofs of the functions share; the parser's proofs cite it too.
pub mod Seen
