pub mod Lines
pub mod Printed
pub mod Rows
pub mod RowsOf
pub mod Entries
pub mod Slots
pub mod Loaded
pub mod OneState
