mod Added
mod Whole
