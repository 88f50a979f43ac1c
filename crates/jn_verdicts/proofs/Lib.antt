pub mod SourceVerdicts
