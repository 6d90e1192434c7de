-- What the contracts of `signed` cite; `Inner` is what only inner contracts cite.
pub mod Value
pub mod Inner
