-- Promised: public contracts name these.
pub mod Chains
pub mod Trace
pub mod Fresh
pub mod Headline
pub mod Outside
pub mod Run
pub mod Sides
pub mod SidesFresh
pub mod Streams
pub mod Throughout
-- Promised: those rest on these.
pub mod Counts
pub mod Generated
pub mod Marks
pub mod Undisturbed
-- Laws: lemmas that impls and clauses cite. They promise nothing.
pub mod ScriptLaws
pub mod Sent
pub mod SideLaws
