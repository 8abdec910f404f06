pub mod Answering
pub mod Arguments
pub mod Growth
pub mod Holding
pub mod Looking
pub mod Memoing
