pub mod VhdlAnswers
mod VhdlExamples
mod ReadNames
mod ReadTokens
mod ReadTables
mod ReadHeaders
mod ReadLists
mod ReadChecks
mod ReadColumns
mod ReadOutputs
mod ReadCounts
mod ReadEntities
mod ReadText
pub mod NextWords
pub mod LoweredNames
pub mod EitherWords
pub mod NextPlaces
