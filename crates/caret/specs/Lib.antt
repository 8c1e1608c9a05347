-- What the contracts of this crate say.
pub mod Asked
pub mod Walk
