pub mod Words
pub mod AgainLemmas
mod BegunLemmas
mod BlankLemmas
mod ContentsLemmas
pub mod MakingLemmas
pub mod OpenedLemmas
pub mod PresentLemmas
mod RefusalLemmas
pub mod RemainsLemmas
pub mod StopLemmas
