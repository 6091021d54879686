pub mod Images
pub mod Memory
pub mod Moments
pub mod Places
pub mod Private
pub mod Told
pub mod VaultMemory
pub mod Vaults
