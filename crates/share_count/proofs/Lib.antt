pub mod Sums
pub mod Steps
pub mod Pooling
pub mod Housing
pub mod Shelves
pub mod Histories
pub mod StockLaws
