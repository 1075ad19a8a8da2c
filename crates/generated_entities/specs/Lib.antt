pub mod Library
pub mod Laws
pub use Rattle.bool_functions.specs as bool_functions
pub use Rattle.generated_modules.specs as generated_modules
