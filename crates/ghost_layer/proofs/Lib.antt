pub mod SharedWith
