-- `HueDifferenceLaws` and `Chord` are for callers; `Signs` and `Sizes` are for it and for the proofs of this crate's functions.
pub mod HueDifferenceLaws
pub mod Chord
mod Signs
mod Sizes
pub mod Examples
