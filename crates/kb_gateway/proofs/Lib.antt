pub mod Beginnings
pub mod CameBack
pub mod IdTexts
pub mod Noted
pub mod PaymentTexts
