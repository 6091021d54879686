pub mod Attempts
pub mod PaymentEdits
pub mod PaymentSums
pub mod Private
pub mod SmallPayments
pub mod SoundPayments
