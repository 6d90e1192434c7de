-- `ValidLaws`, and of `SwatchLaws` the lists filled from the front, are for callers; the others are for the proofs of this
-- crate's functions.
pub mod SwatchLaws
pub mod ValidLaws
