-- What the contracts over token rows cite.
pub mod Tokens
