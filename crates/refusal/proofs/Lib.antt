-- Laws of the order of refusals, for callers.
pub mod RefusalLaws
