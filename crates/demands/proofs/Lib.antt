-- Demands joins the theorems of the crates below. Beliefs refutes, by computing, what document 01 says readers have
-- believed.
pub mod Demands
pub mod Beliefs
