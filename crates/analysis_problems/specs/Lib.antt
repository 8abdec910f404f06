pub mod ProblemLaws
pub mod CheckedStateLaws
pub mod Laws
pub mod Problems
