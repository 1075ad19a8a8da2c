pub mod MaskLemmas
pub mod ColumnLemmas
pub mod LookUpLemmas
