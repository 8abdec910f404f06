pub mod Bodies
pub mod FormSteps
pub mod Shorter
pub mod Told
