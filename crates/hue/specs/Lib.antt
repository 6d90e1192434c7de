pub mod Hue
pub mod Inner
