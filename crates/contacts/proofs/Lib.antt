mod Counted
mod Decoded
mod Pictures
