-- What the contracts of `swatches` cite, and those of the calls over them.
pub mod Swatches
