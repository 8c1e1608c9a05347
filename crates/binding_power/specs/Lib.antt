-- What the contract of this crate cites.
pub mod Power
pub mod Answer
