pub mod TwoCases
