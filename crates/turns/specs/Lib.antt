-- Clauses of the definitions that no run uses.
pub mod Turns
