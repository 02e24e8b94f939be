pub mod Commitments
pub use Rattle.encoding.specs.Forms
pub use Rattle.encoding.specs.Policies
pub use Rattle.nodehash.specs.Digests
