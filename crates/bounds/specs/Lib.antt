-- The bounds that contracts cite.
pub mod Numbers
