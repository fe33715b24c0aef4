pub mod ConfigFile
pub mod Document
pub mod Faults
pub mod Unknown
