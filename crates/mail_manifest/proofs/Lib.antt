mod Answering
mod Holding
pub mod Judging
mod Marks
mod Nothing
pub mod OneLine
pub mod OneMove
pub mod PieceTexts
mod Reading
mod Running
