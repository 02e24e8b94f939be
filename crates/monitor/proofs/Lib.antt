pub mod Changing
pub mod Expected
pub mod Reconciled
pub mod Stepped
pub mod Watching
