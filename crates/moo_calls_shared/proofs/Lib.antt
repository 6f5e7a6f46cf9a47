mod AcceptLaws
mod Changed
pub mod Passed
pub mod Refused
