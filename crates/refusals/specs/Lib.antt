-- Promise 1, in reading order: what happens in a run, document 01's table of causes, and what is returned.
pub mod Trace
pub mod First
pub mod Refusals
pub mod Answered
