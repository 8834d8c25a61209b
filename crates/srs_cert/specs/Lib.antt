pub mod Texts
pub mod Certificates
pub mod Heights
pub mod Sayings
pub mod Lives
pub mod Preorders
