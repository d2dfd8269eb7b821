pub mod KeyWordLemmas
pub mod ScriptLemmas
