pub mod Counting
pub mod Journals
pub mod Opened
pub mod Openings
pub mod Records
pub mod Refusals
pub mod Reopened
