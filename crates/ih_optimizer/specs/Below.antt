-- What definitions, clauses and proofs cite of the crates below: each name stands here with where it is from.
pub mod Arguments
pub mod Endings
pub mod Searches
pub mod Wards
