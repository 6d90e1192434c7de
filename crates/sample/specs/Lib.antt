-- What the contracts of `sample` cite.
pub mod Sample
pub mod InnerNarrowing
pub mod Inner
