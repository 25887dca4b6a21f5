mod Journaled
mod ShieldsExact
