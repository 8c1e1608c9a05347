-- How the parser's values are seen by the machine.
pub mod View
