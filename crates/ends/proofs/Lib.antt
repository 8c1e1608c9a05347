-- What the proofs of this crate and of `grammar` share.
pub mod Laws
pub mod Tests
