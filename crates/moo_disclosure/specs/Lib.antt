pub mod Disclosed
