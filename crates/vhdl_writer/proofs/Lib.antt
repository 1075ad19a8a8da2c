pub mod Turns
mod Examples
