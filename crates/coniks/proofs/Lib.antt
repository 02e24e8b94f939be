pub mod Cuts
pub mod Framing
pub mod Listing
pub mod Standing
pub mod Verdicts
