mod Lines
mod Parts
mod Whole
