pub mod Findings
pub mod Headline
pub mod Output
pub mod private
