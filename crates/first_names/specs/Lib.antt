pub mod AllPlaces
pub mod Places
pub mod PutOnce
