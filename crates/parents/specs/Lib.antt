-- Document 02, 7/14: the fifth number of a tree row, as a statement.
pub mod Upwards
pub mod Before
