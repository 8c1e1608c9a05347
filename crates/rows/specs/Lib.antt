-- The rows of a result, and what a reader of tree rows relies on: where a subtree ends, which rows are children, which
-- bytes are a row's.
pub mod ResultRows
pub mod RowTree
pub mod OnePass
