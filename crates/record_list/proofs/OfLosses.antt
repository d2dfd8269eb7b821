pub mod LossAmong
pub mod LossCounted
pub mod LossCurrent
pub mod LossKept
pub mod LossScc
pub mod LossSetting
