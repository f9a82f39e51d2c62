pub mod Past
pub mod Order
pub mod Laws
