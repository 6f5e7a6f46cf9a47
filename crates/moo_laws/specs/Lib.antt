pub mod Agreeing
pub mod Guarded
pub mod KeptQuotas
pub mod Listed
pub mod NobodyRises
pub mod ObjectNumbers
pub mod Reading
