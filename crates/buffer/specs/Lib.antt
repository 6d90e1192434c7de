-- What the contracts of `buffer` cite, and those of the calls over them; `Inner` is what only inner contracts cite.
-- Bytes are numbers below 256.
pub mod Numbers
pub mod Writing
pub mod Parts
pub mod Inner
