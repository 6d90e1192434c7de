-- What the contracts of `text` cite: the text program. Bytes are numbers below 256, in ASCII.
pub mod Line
pub mod Figures
pub mod Text
pub mod Stream
pub mod Inner
