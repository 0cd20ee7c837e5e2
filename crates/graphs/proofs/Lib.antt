pub mod Graphs
pub mod Printed
pub mod Cleaned
