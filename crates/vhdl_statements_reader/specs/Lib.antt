pub mod Checked
pub mod NextColumns
