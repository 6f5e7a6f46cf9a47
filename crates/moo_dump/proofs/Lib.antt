pub mod Words
pub mod FlatMaps
pub mod Listing
pub mod Writing
pub mod ObjectLines
pub mod Compared
pub mod Skipping
