pub mod Inputs
pub mod LinesPrinted
pub mod RunEnds
pub mod HandedOver
pub mod TextsSaid
pub mod ChecksSaid
pub mod SameSaid
pub mod WeightsSaid
