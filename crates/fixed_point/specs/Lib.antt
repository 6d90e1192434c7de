pub mod Rounding
pub mod Limits
pub mod Refusals
pub mod Samples
pub mod Inner
