pub mod PieceLaws
pub mod ModeLaws
pub mod PrintLaws
pub mod CompareLaws
