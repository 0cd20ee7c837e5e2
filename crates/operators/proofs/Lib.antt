pub mod ModeLaws
