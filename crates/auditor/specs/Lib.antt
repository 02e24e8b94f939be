pub mod Chains
pub mod Evidence
pub mod InOrder
pub mod Observing
pub mod Taking
pub use Rattle.proofs.specs.BrokenPromises
pub use Rattle.rootchain.specs.Places
