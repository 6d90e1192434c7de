-- For the proofs of this crate's functions.
mod LineLaws
