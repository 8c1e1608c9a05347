-- The statements that a reviewer reads.
pub mod AsItWas
pub mod Settings
pub mod Exactly
