pub mod Calls
pub mod Step
pub mod Card
pub mod Trace
pub mod Run
pub mod Demand
