-- `SignedLaws` and `Squares` are for callers; `Results` and `Border` are for the proofs of this crate's functions.
pub mod SignedLaws
pub mod Squares
pub mod Results
pub mod Border
pub mod Examples
