-- For the proofs of this crate's functions and of their callers.
pub mod ReadingLaws
pub mod WritingLaws
