pub mod Books
pub mod Owing
