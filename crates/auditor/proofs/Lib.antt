pub mod Changing
pub mod Contradicting
pub mod Following
pub mod Holding
pub mod InOrder
