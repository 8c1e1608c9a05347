-- What the exported call's proof cites.
pub mod Called
