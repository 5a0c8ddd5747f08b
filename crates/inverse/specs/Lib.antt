pub mod Decipher
