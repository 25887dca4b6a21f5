mod Blanks
mod Numerals
mod Pairs
