mod Examples
pub mod CheckKinds
