pub mod Alike
pub mod Laws
pub mod Made
pub mod Runs
pub mod Texts
