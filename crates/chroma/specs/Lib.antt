-- What the contracts of `chroma` cite.
pub mod Chroma
