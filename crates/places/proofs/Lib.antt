-- `PlacesLaws`, `Columns`, `Order` and `Gathering` are for callers; `Steps` is for the proofs of this crate's functions.
pub mod PlacesLaws
pub mod Columns
pub mod Order
pub mod Gathering
pub mod Steps
pub mod Examples
