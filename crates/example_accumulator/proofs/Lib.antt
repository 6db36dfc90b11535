-- The sum of a column, from the constraints.
mod Sums
