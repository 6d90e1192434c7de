-- `NearBound` is for callers; the others are for it and for the proofs of this crate's functions.
mod PartsBound
mod PairChord
mod RadiusBound
mod ChromaBound
mod LightnessShare
pub mod NearBound
mod Sizes
