pub mod Files
pub mod Found
pub mod Parts
pub mod Answered
pub mod Midway
pub mod Opened
