pub mod FaultCauses
pub mod PriceSteps
pub mod ReadSteps
pub mod TextSteps
pub mod Told
