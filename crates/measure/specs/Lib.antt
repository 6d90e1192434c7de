pub mod Answers
pub mod Calls
pub mod Judged
pub mod Many
pub mod Inner
