pub mod Standing
pub mod OneByOne
pub mod LayerMeaning
pub mod LayerLaws
