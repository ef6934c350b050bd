mod NewNames
mod Resolving
