pub mod MetricSteps
pub mod Stopping
pub mod Reasons
pub mod Replies
pub mod OneReason
pub mod EveryWord
pub mod WhyNotDetermined
pub mod AskingUnmasked
