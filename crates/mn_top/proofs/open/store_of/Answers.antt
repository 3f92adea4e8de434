use Rattle.std.proofs.Common.{ℕ, List, length, ap, sym, subst, ◌≤◌, ◌≡◌, ◌∙◌}
use Rattle.std.specs.List.{AllByRecursion}
use Rattle.mn_mini.specs.Mini.{space_size}
use Rattle.std.proofs.lemmas.Result.{IfOk-weaker}
use Rattle.mn_runs.specs.Protocol.{start_of}
use Rattle.mn_top.specs.Opening.{IsOpenedAs}
use Rattle.mn_top.proofs.Fresh.{fresh_opens}
use Rattle.mn_top.proofs.Memories.{memory_count, memory_whole}
use Rattle.mn_top.proofs.open.store_of.Goals as goal

pub check-requires-clause-few : goal.check-requires-clause-few
check-requires-clause-few c =
    subst (λ (n : ℕ). n ≤ 8) (sym (ap (λ (l : List (List ℕ)). length l) c.in-Ok.ensures.memory ∙ memory_count c.args.records.now)) c.requires.few

pub check-requires-clause-whole : goal.check-requires-clause-whole
check-requires-clause-whole c =
    subst (AllByRecursion (λ (space : List ℕ). length space ≡ space_size)) (sym c.in-Ok.ensures.memory) (memory_whole c.args.records.now)

pub returns-then-have_none-clause-opened : goal.returns-then-have_none-clause-opened
returns-then-have_none-clause-opened c =
    IfOk-weaker c.fresh_store.result _ _
    (λ store same. subst (IsOpenedAs (start_of c.args.records.now)) (sym same)
    (fresh_opens c.args.records.now (sym c.have_none.ensures ∙ c.if-have_none.true) c.requires.some c.requires.few))
    c.fresh_store.ensures.store
