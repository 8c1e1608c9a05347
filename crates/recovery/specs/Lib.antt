-- The third promise as a statement: what two source files share past a semicolon.
pub mod Recovery
