pub mod AsJson
pub mod Html
pub mod Markup
pub mod Location
pub mod Plain
pub mod Steering
pub mod Uri
pub mod Xml
