pub mod Writing
pub mod InLine
pub mod Steps
pub mod NextLine
pub mod Reading
pub mod DigitValues
