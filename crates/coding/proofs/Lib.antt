pub mod SummingRows
pub mod ReadingRows
pub mod PlateWords
pub mod CodingDetermined
pub mod RoundTrip
pub mod CodingCalls
pub mod ZeroMask
