-- The answers that are more than yes and no, for contracts and proofs of the grammar.
pub mod View
