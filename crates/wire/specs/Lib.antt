pub mod Frames
pub mod FrameViews
pub mod Laws
pub mod Refusals
pub mod Requests
pub mod Responses
pub mod Streams
pub mod Tables
