pub mod Words
pub mod Overlays
pub mod Drafts
pub mod Keeping
pub mod Keys
pub mod Changing
pub mod Exactly
pub mod Tied
