pub mod PieceLemmas
pub mod TextLemmas
pub mod BoundFiles
pub mod DrawLemmas
