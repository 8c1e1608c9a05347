-- What the sink's contracts cite. A reviewer reads the first three; Model is what the code is proved equal to.
pub mod Encode
pub mod Sunk
pub mod Promise
pub mod Model
