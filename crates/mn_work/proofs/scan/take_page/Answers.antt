use Rattle.std.proofs.Common.{List, Option, inr, subst}
use Rattle.std.proofs.lemmas.Result.{IfOk-weaker}
use Rattle.mn_page.specs.declared.entry.CatEntry.{CatEntry}
use Rattle.mn_work.specs.Scans.{TakesPage}
use Rattle.mn_work.specs.Seen.{TellsPage}
use Rattle.mn_work.proofs.scan.take_page.Goals as goal

pub returns-clause-taken : goal.returns-clause-taken
returns-clause-taken c =
    IfOk-weaker c.keep.result (TakesPage c.keep_inner.new.self.catalog c.args.name.now c.args.scan.now c.args.addr c.in-Some.page c.keep.new.scan) _
    (λ taken takes.
    inr (
      c.in-Some.page,
      subst (TellsPage c.args.bytes.now) c.in-Some.is c.in_ok-page.ensures,
      subst (λ (o : Option (List CatEntry)). TakesPage o c.args.name.now c.args.scan.now c.args.addr c.in-Some.page c.keep.new.scan taken) c.in_ok-keep_inner.ensures.kept.1 takes,
    ))
    c.keep.ensures.taken
