pub mod Parts
pub mod Files
pub mod Steps
pub mod Faults
pub mod Verdicts
pub mod Auditing
pub use Rattle.textio.specs.Digits
pub use Rattle.textio.specs.Output
