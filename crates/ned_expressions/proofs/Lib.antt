pub mod LevelLaws
pub mod ExpressionLaws
pub mod ViableExpressions
pub mod SpellingLaws
