-- Edge texts and their reader.
pub mod EdgeText
pub mod EdgeTextBothDirections
pub mod EdgeTextCuts
pub mod EdgeTextDrawn
pub mod EdgeTextFaults
pub mod EdgeTextFields
pub mod EdgeTextGraph
pub mod EdgeTextLines
pub mod EdgeTextRepeats
pub mod EdgeTextRun
pub mod EdgeTextSpelling
pub mod EdgeTextStep
pub mod EdgeTextTable
