-- What a run does, step by step.
pub mod Steps
pub mod Signs
