pub mod Lists
pub mod Look
pub mod Good
pub mod Counts
