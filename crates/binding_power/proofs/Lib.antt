-- The table of levels, what is proved of it number by number, and the powers of a level.
pub mod Powers
