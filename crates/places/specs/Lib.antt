-- What the contracts of `places` cite, and those of the calls over them; `Inner` is what only inner contracts cite.
pub mod Places
pub mod Inner
