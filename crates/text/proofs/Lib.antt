-- `Streaming` and `Whole` are for callers; the others are for the proofs of this crate's functions.
mod LineLaws
mod FigureLaws
mod Answering
mod Holding
pub mod Streaming
pub mod Whole
mod Examples
