-- For the prover alone: no public contract names what is here, and nothing here is a promise.
pub mod Codes
