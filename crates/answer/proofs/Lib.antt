-- Laws of what words and answers mean.
pub mod Meant
pub mod Unwritten
pub mod Past
pub mod Obeying
