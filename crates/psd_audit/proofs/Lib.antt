pub mod DateCells
