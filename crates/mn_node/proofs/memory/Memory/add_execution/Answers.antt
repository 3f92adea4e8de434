use Rattle.std.proofs.Common.{◌≡◌, ◌++◌, ◌∷◌, [], List, ap, sym, ◌∙◌, subst}
use Rattle.mn_mini.specs.declared.part.PartItem.{PartItem}
use Rattle.mn_mini.specs.declared.record.Record.{Record}
use Rattle.mn_mini.specs.declared.record.Record.TheVariants.{Executed}
use Rattle.mn_mini.specs.Flat.{space_after_part}
use Rattle.mn_mini.specs.RecordGrammar.{IsRecord}
use Rattle.mn_page.specs.Base.{base_of}
use Rattle.mn_node.specs.Memory.{IsMadeByRecords}
use Rattle.mn_node.proofs.Built.{built_executed}
use Rattle.mn_node.proofs.memory.Memory.add_execution.Goals as goal

pub returns-clause-memory : goal.returns-clause-memory
returns-clause-memory c =
    let m = c.args.self.now in
    let base = base_of m.nodes m.node in
    let part = c.args.part.now in
    let new = c.write_items.new.space in
    let items : c.push.new.self.items ≡ m.records.items ++ c.args.executed ∷ [] = rw c.unwrap.ensures at c.push.ensures.items in
    let records : c.push.new.self.items ≡ m.records.items ++ Executed c.args.tid part ∷ [] = items ∙ ap (λ (r : Record). m.records.items ++ r ∷ []) c.requires.same in
    let written : new ≡ space_after_part m.space part = c.write_items.ensures.space ∙ ap (λ (p : List PartItem). space_after_part m.space p) c.as_slice.ensures in
    let built = built_executed base m.records.items m.space new m.locks.holds m.forced.items m.held.items c.args.tid part c.requires.memory (subst IsRecord c.requires.same c.requires.execution) written c.write_items.ensures.whole in
    subst (λ (l : List Record). IsMadeByRecords base l new m.locks.holds m.forced.items m.held.items) (sym records) built
