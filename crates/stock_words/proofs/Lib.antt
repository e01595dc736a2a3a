pub mod NumberWords
pub mod ServeWords
pub mod WordsLemmas
pub mod Forms
