pub mod Expecting
pub mod Monitors
pub mod Refusals
pub mod Stepping
pub mod Views
