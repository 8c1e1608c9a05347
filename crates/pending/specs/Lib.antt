-- Each expectation once (document 02, 6/14): the run as it is, the run as it was, and the run with the Rust's list.
pub mod RunBy
pub mod Once
pub mod Before
pub mod Rust
pub mod AsBefore
