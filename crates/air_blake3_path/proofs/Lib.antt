-- From an empty report to the root.
mod Evaluated
mod Halves
mod Nodes
mod NodeRows
mod Roots
