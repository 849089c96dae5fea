pub mod AsJsonLaws
pub mod HtmlLaws
pub mod MarkupLaws
pub mod PlainLaws
pub mod UriLaws
pub mod WrittenLaws
pub mod XmlLaws
