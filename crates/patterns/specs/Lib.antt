-- What is proved of patterns: that the definitions' test is the textbook's, and that remainders decide it.
pub mod Textbook
pub mod Remainder
