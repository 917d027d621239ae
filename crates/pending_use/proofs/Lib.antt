mod Changes
mod Vectors
mod YoungerEntries
