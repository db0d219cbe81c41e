pub mod Form
pub mod Keep
