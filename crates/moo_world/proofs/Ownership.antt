-- Nobody's ownership changes by a programmer who is no wizard, and quotas count.
pub mod Kept
pub mod Created
pub mod Quotas
pub mod Counted
pub mod Changed
pub mod Rebuilt
pub mod Petitions
