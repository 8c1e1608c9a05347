-- What the contracts of several crates cite beside `definitions`.
pub mod Word
pub mod WordSet
