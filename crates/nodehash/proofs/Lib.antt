pub mod Counting
pub mod Groups
pub mod TextSizes
