pub mod Histories
pub mod Judged
pub mod Machines
pub mod Plans
pub mod Private
pub mod Texts
