-- What the types of the crate are as plain data.
use Rattle.code_image.specs.declared.segment.Segment.{Segment}
use Rattle.code_image.specs.declared.tree.Tree.{Tree, fold-Tree}
use Rattle.code_image.specs.declared.tree.Tree.TheOpen.{Tree-F}
use Rattle.code_image.specs.Image as i
use Rattle.code_image.specs.Tree as t

abbrev pub segment_of : Segment → i.Segment
segment_of s = record { base = s.base; bytes = s.bytes.items }

abbrev pub tree_step : Tree-F t.Tree → t.Tree
tree_step (Tree-F.Group numbers) = t.group numbers.items
tree_step (Tree-F.Fork n without_ with_) = t.fork n without_.value with_.value

abbrev pub tree : Tree → t.Tree
tree = fold-Tree t.Tree tree_step
