mod Joins
mod Gathers
mod Erasures
mod Names
mod Fronts
