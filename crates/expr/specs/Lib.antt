-- What the contracts of this crate cite.
pub mod Subprograms
pub mod Chain
