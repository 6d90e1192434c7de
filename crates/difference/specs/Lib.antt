-- What the contracts of `difference` cite.
pub mod Parts
pub mod Pair
pub mod Cie76
pub mod Cie94
pub mod Ciede2000
pub mod Verdict
pub mod Inner
