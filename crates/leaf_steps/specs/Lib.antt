pub mod Origins
pub mod Laws
pub mod Gives
pub mod Taking
pub mod Making
