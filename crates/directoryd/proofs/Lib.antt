mod Commands
mod KeyLines
mod KeyTexts
mod Numbers
pub mod Faults
mod Outcomes
mod Statuses
mod Telling
