pub mod InPlace
pub mod Lists
pub mod Repeats
pub mod Told
pub mod Placing
