pub mod Answered
pub mod Laws
pub mod Mine
pub mod MineLends
pub mod NodeLends
pub mod Roomed
