-- What the contracts of `swatch_text` cite. Bytes are numbers below 256, in ASCII.
pub mod Lines
