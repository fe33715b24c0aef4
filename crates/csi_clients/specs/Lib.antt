pub mod Calls
pub mod Clients
pub mod Examples
pub mod Files
pub mod Histories
pub mod Linearizability
pub mod Objects
pub mod OtherVolumes
