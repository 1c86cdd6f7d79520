pub mod DigitLaws
pub mod RoomLaws
