pub mod HueDifference
pub mod Inner
