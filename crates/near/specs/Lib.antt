-- What the contracts of `near` cite: inner ones alone.
pub mod Inner
pub mod InnerNeighbourhood
