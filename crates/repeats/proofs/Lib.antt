pub mod Plaintexts
pub mod Keystreams
pub mod MixedValues
pub mod Modes
pub mod Tea7
pub mod Schedules
