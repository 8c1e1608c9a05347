-- The statements that a reviewer reads.
pub mod Pushes
pub mod TreeRows
pub mod Lossless
pub mod Limits
pub mod Once
