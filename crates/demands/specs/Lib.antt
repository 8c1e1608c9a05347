-- What a reviewer reads first of the theorems.
pub mod Demands
