-- What the contracts of `deck_file` cite; `Inner` is what only inner contracts cite.
pub mod Layout
pub mod Refusals
pub mod Transfers
pub mod Inner
