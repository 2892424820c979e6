-- The laws of a round, over any rules, over whatever a walk keeps, and over the walk for isolated cliques.
pub mod Turn
pub mod Running
pub mod Round
