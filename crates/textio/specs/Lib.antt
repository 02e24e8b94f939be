pub mod Digits
pub mod Lines
pub mod Pieces
pub mod Faults
pub mod Output
pub use Rattle.hex.specs.Hex
