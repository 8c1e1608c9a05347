-- What the answers to the two queries promise: they parse first; the chain under the caret; the parts in a range.
pub mod AsParsed
pub mod UnderCaret
pub mod PartsListed
