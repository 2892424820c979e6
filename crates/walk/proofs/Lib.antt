-- The highest taken rank left, and one step.
pub mod RanksFilled
pub mod HighestTaken
pub mod OneStep
