-- What a reviewer reads of brackets: where an LParen stands in the tree, and what is said where no RParen balances it.
pub mod Brackets
pub mod Partner
