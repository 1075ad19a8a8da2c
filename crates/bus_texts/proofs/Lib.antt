pub mod LoopLemmas
pub mod PartLemmas
pub mod RewrittenTexts
pub mod RunningTexts
pub mod NamedLemmas
pub mod TypeLemmas
