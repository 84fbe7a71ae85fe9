-- Laws that the functions' proofs cite: places in a plan, and how many steps without a choice are left there.
pub mod Places
pub mod Weights
