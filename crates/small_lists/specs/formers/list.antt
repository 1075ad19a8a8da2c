pub mod SmallList
