-- What the contracts cite. The exported one, of the crate `dt_parser`, cites Result and `definitions` alone.
pub mod Result
pub mod Checked
pub mod Ended
pub mod Text
