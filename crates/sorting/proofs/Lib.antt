-- `OrderLaws` is for callers; the rest is for the proofs of this crate's functions.
pub mod OrderLaws
mod PutLaws
mod PackLaws
mod Examples
