mod Comparisons
mod Exactness
mod Examples
mod Flags
mod Nearest
mod NearestEven
mod Sizes
pub mod FixedLaws
