-- Laws     what callers cite: a start is valid, audible, and of its priority
pub mod Laws
