pub mod Weighting
