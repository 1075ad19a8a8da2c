mod Basics
pub mod NumberTests
pub mod WordLemmas
pub mod ResolutionLemmas
pub mod ListLemmas
pub mod SplitLemmas
pub mod InsideLemmas
pub mod OrderLemmas
pub mod HalvesLemmas
pub mod TryingLemmas
pub mod RowLemmas
pub mod PointLemmas
pub mod ConstantLemmas
pub mod InWordLemmas
pub mod PackLemmas
