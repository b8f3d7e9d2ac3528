pub mod Products
pub mod Examples
pub mod Laws
