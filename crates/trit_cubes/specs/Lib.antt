pub mod Filling
pub mod Resolution
pub mod Sets
pub mod Prime
pub mod Words
pub mod InWords
