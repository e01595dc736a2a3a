pub mod FieldLemmas
pub mod CloseLemmas
pub mod RuleLemmas
pub mod ResponseLemmas
pub mod HearLemmas
pub mod InboxLemmas
pub mod FramingLemmas
