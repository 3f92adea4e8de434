use Rattle.mn_forest.specs.Trees.{name_key}
use Rattle.mn_forest.proofs.pages.Names.note.Goals as goal

pub returns : goal.returns
returns c = λ a v h. c.in_ok-insert.ensures.updates.0 (name_key a v h)
