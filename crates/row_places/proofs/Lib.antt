-- Halving: that the rule is one step and the rest, what it finds, and how many probes it takes; the lookup and its promises.
pub mod Halving
pub mod Probes
pub mod Examples
