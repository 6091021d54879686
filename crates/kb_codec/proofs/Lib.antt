pub mod CommandLaws
pub mod KindLaws
pub mod MemberLaws
pub mod Readers
pub mod ShortTexts
pub mod TextMemberLaws
