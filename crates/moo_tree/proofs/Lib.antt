pub mod Words
pub mod Climbing
pub mod Sharing
pub mod Listing
pub mod Searching
pub mod Found
