-- What the contracts of `sorting` cite, and those of the calls over them; `Inner` is what only inner contracts cite.
pub mod Order
pub mod Inner
