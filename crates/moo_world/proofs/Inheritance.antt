-- What objects owe their ancestors, the rebuilt world, and what each change of links or definitions makes of it.
pub mod Owed
pub mod Rebuilding
pub mod ManualLaw
pub mod OneByOne
pub mod Keeping
pub mod Insertion
pub mod Replacement
pub mod Shorter
pub mod Creating
pub mod Recycling
pub mod Reparenting
