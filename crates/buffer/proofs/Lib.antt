-- `WritingLaws`, `NumberLaws` and `PartsLaws` are for callers too.
pub mod WritingLaws
pub mod NumberLaws
pub mod PartsLaws
pub mod Examples
