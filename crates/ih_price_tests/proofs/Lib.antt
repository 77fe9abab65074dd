mod RoomDayChanges
mod TwoStays
