pub mod FieldSteps
pub mod Fitting
pub mod ListedSteps
pub mod MapSteps
pub mod RowSteps
