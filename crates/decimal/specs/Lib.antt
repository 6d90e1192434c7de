-- What the contracts of `decimal` cite. Bytes are numbers below 256, in ASCII.
pub mod Reading
pub mod Writing
pub mod Inner
