mod Asking
mod Counting
mod Slots
mod Writing
