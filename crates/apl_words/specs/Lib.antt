pub mod Options
pub mod Workload
pub mod Laws
