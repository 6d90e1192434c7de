-- `ChromaLaws` and `Spread` are for callers.
pub mod ChromaLaws
pub mod Spread
mod Examples
