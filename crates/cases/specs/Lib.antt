-- What the clauses of the crate say of a list's text and of lent buffers.
pub mod Scanner
pub mod Lent
