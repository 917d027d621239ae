pub mod Scopes
pub mod Names
pub mod Laws
