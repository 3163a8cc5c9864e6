pub mod Sums
pub mod Gcd
pub mod Laws
