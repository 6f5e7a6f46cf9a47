pub mod Judge
pub mod Outcomes
pub mod Checks
pub mod Facts
pub mod Ticks
pub mod Seeing
