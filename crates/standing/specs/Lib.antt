pub mod Stand
pub mod Laws
pub mod Growing
pub mod Statements
pub mod Behind
