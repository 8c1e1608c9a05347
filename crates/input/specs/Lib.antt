-- What the contracts of this crate cite beside `definitions`.
pub mod Checks
