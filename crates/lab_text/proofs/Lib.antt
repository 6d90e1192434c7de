-- `TextLaws`, and of `ImportLaws` the count, are for callers; the others are for the proofs of this crate's functions.
mod FieldLaws
mod HeadLaws
mod RowLaws
pub mod ReadLaws
pub mod TextLaws
pub mod ImportLaws
mod Examples
