-- What the contracts over kinds, numbers and lent buffers cite.
pub mod Numbers
pub mod Rows
