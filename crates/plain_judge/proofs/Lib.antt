mod RaisedPlaces
mod Terms
mod Dense
mod Sums
mod Slacks
mod Residues
pub mod Order
pub mod MetNames
mod PlaceNumbers
mod ByPlace
mod FirstFailing
mod Settled
