-- the records that are kept so far, and the zeros behind them
pub mod KeepLaws
-- a roll, by what its tests say
pub mod RollLaws
