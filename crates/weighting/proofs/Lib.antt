pub mod WeightingLaws
pub mod RotationBound
mod Examples
