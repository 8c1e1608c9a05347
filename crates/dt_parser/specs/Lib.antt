-- What the inner contracts cite. The exported one cites Result of the crate `call`, and `definitions`.
pub mod Asked
