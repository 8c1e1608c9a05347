-- What the contracts cite. Model is what the code is proved equal to; Promise is what it comes to.
pub mod Model
pub mod Promise
