-- What the contracts of `deck` cite; `Inner` is what only inner contracts cite.
pub mod Deck
pub mod Answers
pub mod ListsMatches
pub mod Search
pub mod Inner
pub mod InnerQuery
pub mod InnerColumns
