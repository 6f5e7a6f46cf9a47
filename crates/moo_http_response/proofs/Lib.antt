pub mod Words
pub mod Nesting
pub mod Ascii
pub mod BodyLemmas
pub mod PageLemmas
pub mod HeadLemmas
pub mod EachLemmas
