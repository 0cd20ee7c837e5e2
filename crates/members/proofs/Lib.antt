pub mod MemberLaws
pub mod StepLaws
pub mod ModeListLaws
pub mod ModeLaws
