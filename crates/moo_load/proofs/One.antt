pub mod Texts
pub mod Entries
pub mod Values
pub mod Injective
pub mod Fitting
pub mod Told
