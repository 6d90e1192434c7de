-- What the contracts of the calls that refuse cite.
pub mod Refusals
