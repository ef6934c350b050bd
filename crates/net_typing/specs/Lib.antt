pub mod Refusals
pub mod Rules
pub mod Standing
pub mod TypedArcs
pub mod Weights
