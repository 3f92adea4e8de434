use Rattle.mn_forest.proofs.Noting.{names_page, names_skip}
use Rattle.mn_forest.proofs.pages.Names.note_page.Goals as goal

pub returns-in_ok-note_children-in-Some : goal.returns-in_ok-note_children-in-Some
returns-in_ok-note_children-in-Some c = λ entries are so. names_page c.args.self.now c.note_children.new.self c.args.spaces.now entries c.args.addr c.in-Some.page so c.in-Some.ensures (c.in_ok-note_children-in-Some.ensures entries are)

pub returns-in-None : goal.returns-in-None
returns-in-None c = λ entries are so. names_skip c.args.self.now c.args.spaces.now entries c.args.addr so c.in-None.ensures
