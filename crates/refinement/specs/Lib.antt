-- From the parser's machine and the sink's promise to the whole call.
pub mod Ends
