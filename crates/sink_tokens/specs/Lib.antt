-- What the contracts cite.
pub mod Tokens
