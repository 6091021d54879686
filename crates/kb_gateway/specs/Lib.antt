pub mod Answers
pub mod Exchanges
pub mod GatewayIds
pub mod GatewayLines
pub mod ListGateways
pub mod Private
pub mod Told
