pub mod Day
pub mod DayBooks
pub mod Room
pub mod RoomBooks
pub mod DayLaws
pub mod RoomLaws
