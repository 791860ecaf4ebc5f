pub mod Blank
mod Booted
mod Commits
mod Worn
