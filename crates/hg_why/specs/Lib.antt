pub mod Before
pub mod Causes
pub mod Fate
pub mod Blocks
pub mod FateLines
pub mod Names
