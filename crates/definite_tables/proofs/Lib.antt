pub mod Definite
