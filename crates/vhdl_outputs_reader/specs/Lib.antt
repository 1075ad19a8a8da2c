pub mod SourceParts
