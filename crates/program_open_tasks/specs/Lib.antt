pub mod Open
pub mod OpenTables
