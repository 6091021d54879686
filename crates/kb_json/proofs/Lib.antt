mod AskedCallers
pub mod DateTexts
pub mod Decimals
pub mod FlatRows
pub mod FoundMembers
pub mod Lines
pub mod MemberSteps
pub mod PlainBytes
pub mod PlainJson
pub mod Steps
pub mod TextsOf
pub mod TokenLists
