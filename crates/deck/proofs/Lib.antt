-- `DeckLaws`, `Orderly` and `Searching` are for callers; the others are for the proofs of this crate's functions.
pub mod DeckLaws
pub mod Orderly
pub mod LightnessWindow
pub mod FarSwatch
pub mod Searching
pub mod Examples
