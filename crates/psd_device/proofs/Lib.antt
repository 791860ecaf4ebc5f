mod Commits
mod Performs
