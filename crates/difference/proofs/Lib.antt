mod Sizes
mod Pairs
pub mod Points
-- What holds of the three differences, for all samples: theorems for readers and callers.
pub mod WeightingChroma
pub mod Symmetry
pub mod Zero
pub mod LightnessBound
pub mod FigureBounds
pub mod HueSide
pub mod Examples
