pub mod Alike
mod AllRuns
mod Comparing
mod Counting
pub mod EachRun
mod Exact
mod Fitted
mod GivenBack
mod Giving
pub mod Left
mod MadePrinted
mod Matching
pub mod One
mod OneVerdict
mod Opening
mod Paired
mod Passing
mod PrintParts
mod Reaching
mod WasRead
mod ReadTurns
mod Running
mod Turning
