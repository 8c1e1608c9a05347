-- What the contracts cite; and Ties, a theorem on the rules that the automaton gives.
pub mod States
pub mod Table
pub mod Matches
pub mod Ties
pub mod Callbacks
