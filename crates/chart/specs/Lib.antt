pub mod Charts
pub mod Rules
