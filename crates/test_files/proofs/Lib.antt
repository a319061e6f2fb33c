pub mod WholeWrites
