pub mod Passed
pub mod Laws
pub mod SeenTraffic
pub mod Past
