pub mod ProperSets
mod AnyLaws
mod TableLaws
mod RuleLaws
mod Goodness
pub mod SettlingLaws
pub mod CallLaws
pub mod BoardLaws
mod RunLaws
mod StoreLaws
mod MarkLaws
mod CallExits
mod Theorem
mod ProbeLaws
mod ProbeTheorem
