pub mod Layout
pub mod Grammar
pub mod Answers
pub mod Numbers
pub mod Sheets
pub mod NewPlot
