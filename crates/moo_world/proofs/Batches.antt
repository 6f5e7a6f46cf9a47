-- Runs of batches, names of calls, and worked rows.
pub mod Judging
pub mod Requested
pub mod PetitionNumbers
pub mod TreeT
pub mod OneByOneT
pub mod WorkedCalls
pub mod WorkedPetitions
