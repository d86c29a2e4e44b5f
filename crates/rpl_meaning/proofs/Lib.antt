mod Examples
pub mod BlockLaws
pub mod WordLaws
pub mod ConditionLaws
pub mod WalkLaws
pub mod StepLaws
pub mod KnownLaws
pub mod RunLaws
pub mod CommunityLaws
pub mod OutcomeLaws
pub mod ActionLaws
