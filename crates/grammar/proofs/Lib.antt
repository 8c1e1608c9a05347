-- What the proofs of the functions share; which refusals a walk may come to (Causes), with computed cases (Examples).
pub mod Laws
pub mod Ways
pub mod Causes
pub mod Examples
