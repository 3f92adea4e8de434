use Rattle.std.proofs.Common.{◌≡◌, ℕ, List, Vec, Global, length, map, get_or, ap, sym, subst, ◌∙◌, arith}
use Rattle.mn_runs.specs.declared.entry.Entry.{Entry}
use Rattle.mn_runs.specs.Log.{IsSpot, entry_at, nobody}
use Rattle.mn_runs.proofs.Logs.{map_at, map_long}
use Rattle.mn_runs.proofs.log.Log.entry.Goals as goal

pub entry_at-requires : goal.entry_at-requires
entry_at-requires c =
    let lists : List (List (ℕ × Entry)) = map (λ list. list.items) c.self.inside.lists.items in
    let same = ap length (sym c.self.view_is) ∙ map_long (entry_at lists) c.self.inside.order.items in
    let there = c.self.invariant c.args.place c.index.result.now (omega (arith, same, c.requires)) c.index.ensures in
    subst (λ (l : List (Vec (ℕ × Entry) Global)). IsSpot (map (λ list. list.items) l) c.index.result.now) (sym c.deref.ensures.value) there

pub returns : goal.returns
returns c =
    let lists : List (List (ℕ × Entry)) = map (λ list. list.items) c.self.inside.lists.items in
    let same = ap length (sym c.self.view_is) ∙ map_long (entry_at lists) c.self.inside.order.items in
    let at : get_or (map (entry_at lists) c.self.inside.order.items) c.args.place nobody ≡ entry_at lists c.index.result.now =
    map_at (entry_at lists) c.self.inside.order.items c.args.place c.index.result.now nobody (omega (arith, same, c.requires)) c.index.ensures in
    let is : c.entry_at.result.now ≡ entry_at lists c.index.result.now =
    c.entry_at.ensures ∙ ap (λ (l : List (Vec (ℕ × Entry) Global)). entry_at (map (λ list. list.items) l) c.index.result.now) c.deref.ensures.value in
    ap (λ (e : ℕ × Entry). e.1) (is ∙ sym at ∙ ap (λ (l : List (ℕ × Entry)). get_or l c.args.place nobody) c.self.view_is)
