-- Document 02, 4/14, beside what was before it: the old call, and the statement about both.
pub mod Before
pub mod ToldApart
