pub mod Parts
pub mod NodeTexts
pub mod Reports
pub mod Reading
