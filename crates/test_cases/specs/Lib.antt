pub mod Machine
pub mod MachineLaws
pub mod MachineSound
pub mod Splitting
