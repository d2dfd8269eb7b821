pub mod LawTwo
pub mod LawsAlike
pub mod LeastBreaches
pub mod TwinsAlike
pub mod CountsAlike
pub mod OwnCurrent
