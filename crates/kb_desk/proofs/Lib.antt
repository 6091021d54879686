pub mod GoneOn
