pub mod Leaves
pub mod Nonempty
pub mod Pieces
pub mod Trees
pub mod NetTrees
pub mod PropertyTrees
