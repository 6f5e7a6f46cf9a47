-- Every call and every batch leaves a well formed world well formed.
pub mod Limits
pub mod Ranges
pub mod Shapes
pub mod Rows
pub mod Fields
pub mod Directories
pub mod Slots
pub mod Arguments
pub mod Values
pub mod Quotas
pub mod Petitions
pub mod Runs
pub mod Calls
pub mod Passing
