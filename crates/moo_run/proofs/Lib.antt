pub mod Words
mod Beginning
pub mod Connections
mod OverFiles
mod Tasks
