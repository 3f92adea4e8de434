use Rattle.std.proofs.Common.{List, [], reverse, append-nil, subst}
use Rattle.mn_mini.specs.declared.record.Record.{Record}
use Rattle.mn_flat.specs.Known.{TableTells}
use Rattle.mn_flat.proofs.flat.table_of.Goals as goal

pub returns : goal.returns
returns c = subst (λ (l : List Record). TableTells c.note_all.new.table l) (append-nil (reverse c.args.records.now)) (c.in_ok-note_all.ensures [] c.new-table.ensures)
