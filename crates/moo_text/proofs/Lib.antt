pub mod Shared
pub mod Words
pub mod Places
pub mod Kept
pub mod Giving
pub mod SoFar
pub mod Reading
pub mod Carrying
pub mod Joining
pub mod Headers
pub mod Calls
pub mod Cutting
mod Putting
