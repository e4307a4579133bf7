mod Jumps
mod Keeping
mod Searching
mod Refusing
