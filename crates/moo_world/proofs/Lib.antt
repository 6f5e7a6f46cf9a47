pub mod Words
pub mod Lemmas
pub mod Ancestry
pub mod Inheritance
pub mod Form
pub mod Ownership
pub mod Shown
pub mod Batches
