pub mod LevelRows
pub mod LineLemmas
pub mod ReportLines
pub mod TextTables
pub mod VerdictLemmas
