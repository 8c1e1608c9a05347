-- `Ends` has the whole of a query, put together as the code does.
pub mod Ends
