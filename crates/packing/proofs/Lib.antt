-- what is packed, answer by answer
pub mod Packs
