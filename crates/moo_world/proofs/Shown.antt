-- What rows say of the world that they show.
pub mod MapLaws
pub mod RowLaws
pub mod Seen
pub mod Slots
pub mod Reading
pub mod Accepting
pub mod EntriesInOrder
pub mod ObjectEntries
pub mod Listed
pub mod PairLists
pub mod Numbered
pub mod OneKey
pub mod NumbersKept
pub mod OpeningRows
pub mod Beside
