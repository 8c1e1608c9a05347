-- The literal machine: what the code does, in numbers. Used in proofs only.
pub mod Machine
pub mod Walk
pub mod Encode
pub mod Outcome
