pub mod ExitLemmas
pub mod LineLemmas
pub mod ScriptLemmas
pub mod StoppedLemmas
pub mod WritingLemmas
