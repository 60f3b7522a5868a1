pub mod OpeningRoom
pub mod RoomRead
pub mod EndBefore
pub mod ExtentLeft
