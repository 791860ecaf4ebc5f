mod Blank
mod Stands
