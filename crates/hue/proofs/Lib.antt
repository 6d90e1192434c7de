-- Laws for callers, and examples.
pub mod HueLaws
pub mod QuadrantSigns
mod Quadrants
mod Halving
mod Examples
pub mod Numbers
