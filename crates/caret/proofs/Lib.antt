-- The walks over tree rows: `Turns` has a turn of each.
pub mod Turns
pub mod Chains
pub mod Listings
pub mod Skips
pub mod Offsets
