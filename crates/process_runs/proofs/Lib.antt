pub mod EntityLemmas
pub mod TableRowLemmas
pub mod ColumnLemmas
pub mod ConditionLemmas
pub mod NumberedPathLemmas
