pub mod Ranges
pub mod GaussianLaws
mod Neighbours
pub mod Examples
