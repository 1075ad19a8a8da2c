pub use Rattle.module_shapes.proofs.ShapeLaws as ShapeLaws
pub mod Firsts
pub mod Feeding
pub mod VerdictLaws
