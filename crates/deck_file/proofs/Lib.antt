-- `RoundTrip`, and of `Answering` the laws of every `Transfer`, are for callers; the others are for the proofs of this crate's functions.
pub mod RoundTrip
pub mod Swatches
pub mod Refusing
pub mod Answering
pub mod Examples
