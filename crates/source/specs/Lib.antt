-- Where the cursor of a `Source` moves.
pub mod Cursor
