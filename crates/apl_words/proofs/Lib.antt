mod Digits
mod Texts
mod Matches
