pub mod SampleLaws
mod Limits
