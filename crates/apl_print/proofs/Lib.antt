mod ArrayTexts
mod ColumnWidths
mod Layouts
mod LeafTexts
mod LineTexts
mod Passes
pub mod Pieces
mod Reading
mod ReportTexts
mod Utf8
