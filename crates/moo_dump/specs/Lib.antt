pub mod Dump
pub mod Lines
pub mod Outlined
pub mod Written
pub mod Difference
pub mod Look
