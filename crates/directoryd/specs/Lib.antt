pub mod CommandLine
pub mod KeyFiles
pub mod Orders
pub mod Programs
pub mod Tables
pub mod TextNames
