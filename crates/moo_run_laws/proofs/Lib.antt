mod LawLemmas
mod TwiceLemmas
mod LedLemmas
mod InTurnLemmas
pub mod Desks
pub mod LedgerLemmas
