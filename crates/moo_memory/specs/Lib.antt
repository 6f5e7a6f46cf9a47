pub mod Overlay
pub mod Either
pub mod Forgotten
pub mod Changes
pub mod Without
pub mod Laws
