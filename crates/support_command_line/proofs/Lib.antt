pub mod Askings
pub mod DigitTexts
pub mod GivenParts
pub mod Givings
pub mod PartsRead
pub mod Pieces
pub mod WordsApart
