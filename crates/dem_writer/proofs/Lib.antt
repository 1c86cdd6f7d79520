pub mod RoomLaws
pub mod PrintLaws
pub mod KindLaws
pub mod TextLaws
pub mod SizeLaws
