-- What the lent buffers hold, in the terms of the definitions.
pub mod Held
