-- What is left of a text that is read on, step by step.
pub mod Tails
