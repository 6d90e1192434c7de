pub mod Sine
pub mod Inner
