-- Laws about the definitions of specs/. Implementations and higher layers cite them.
pub mod Numbers
