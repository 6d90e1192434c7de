-- Laws for callers, and examples.
pub mod SineLaws
pub mod Tabulate
mod Results
mod Examples
