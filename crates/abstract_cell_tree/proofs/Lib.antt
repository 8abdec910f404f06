mod AtFork
mod Parting
mod Beside
mod Walking
