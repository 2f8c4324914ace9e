pub mod KeyLine
pub mod Report
pub mod VerdictLine
