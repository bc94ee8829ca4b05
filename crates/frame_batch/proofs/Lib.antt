pub mod InWindows
pub mod InParts
mod InNodes
