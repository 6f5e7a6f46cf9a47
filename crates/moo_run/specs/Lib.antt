pub mod Ends
pub mod Given
pub mod Run
