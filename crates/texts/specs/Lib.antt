-- What is proved of calls over texts, in reading order.
pub mod Plain
pub mod TextRefusals
pub mod TextAnswered
pub mod TextsLocal
