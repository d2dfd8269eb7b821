pub mod GoingCounts
pub mod GoneRecords
pub mod RoomCalls
pub mod RoomMade
pub mod Space
pub mod NextNames
pub mod NowVictims
