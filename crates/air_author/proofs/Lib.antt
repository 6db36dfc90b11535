-- Lemmas on lifts, names and powers.
mod Lifting
mod Naming
mod Powers
