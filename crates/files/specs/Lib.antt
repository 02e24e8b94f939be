pub mod Faults
pub mod Folders
pub mod Telling
