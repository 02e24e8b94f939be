pub mod Asking
pub mod Comparing
pub mod Exports
pub mod Finals
pub mod Hearing
pub mod Parts
pub mod Told
