pub mod Gathered
pub mod Walks
mod Folds
mod Found
mod Agrees
pub mod ClauseCores
mod Selected
pub mod EvaluationLemmas
