-- What a call does and answers.
pub mod Answer
pub mod Asking
pub mod Line
pub mod Plan
pub mod Recipe
pub mod Reply
pub mod Steps
pub mod Whole
-- What private functions answer, part by part.
pub mod Ending
pub mod Faults
pub mod Refused
pub mod Runs
-- Laws that contracts say.
pub mod Laws
-- Laws that range over types, which no contract can say, with their proofs.
pub mod Fronts
pub mod Going
pub mod Recipes
