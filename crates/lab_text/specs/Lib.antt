-- What the contracts of `lab_text` cite; `Inner` is what only inner contracts cite. Bytes are numbers below 256, in ASCII.
pub mod Keywords
pub mod Fields
pub mod Text
pub mod Imports
pub mod Inner
