mod Resolving
mod Settling
mod Walking
