mod Charges
mod Passing
mod Rounds
mod TwoOwners
