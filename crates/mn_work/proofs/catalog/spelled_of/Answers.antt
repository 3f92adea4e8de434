use Rattle.std.proofs.Common.{◌≡◌, ◌+◌, ◌++◌, ℕ, List, [], ◌∷◌, drop, map, sym, ap, ◌∙◌}
use Rattle.std.proofs.lemmas.List.{append_assoc, drop_more}
use Rattle.mn_page.specs.declared.entry.CatEntry.{CatEntry}
use Rattle.mn_page.specs.Grammar.{entry_bytes}
use Rattle.mn_work.proofs.catalog.spelled_of.Goals as goal

one_more : (f : CatEntry → List ℕ) (entries : List CatEntry) (i : ℕ) (e : CatEntry)
    (before after : List (List ℕ)) (bytes : List ℕ)
    → drop i entries ≡ e ∷ drop (i + 1) entries → bytes ≡ f e → after ≡ before ++ bytes ∷ []
    → before ++ map f (drop i entries) ≡ map f entries
    → after ++ map f (drop (i + 1) entries) ≡ map f entries
one_more f entries i e before after bytes split spelled pushed so_far =
    let rest = map f (drop (i + 1) entries) in
    ap (λ (l : List (List ℕ)). l ++ rest) pushed
    ∙ (append_assoc before (bytes ∷ []) rest
    ∙ (ap (λ (b : List ℕ). before ++ b ∷ rest) spelled
    ∙ (ap (λ (l : List CatEntry). before ++ map f l) (sym split) ∙ so_far)))

pub loop-entry-preserved : goal.loop-entry-preserved
loop-entry-preserved c =
    let entries = c.entries-entries.result.now in
    let i = c.loop-entry.entry-index in
    let split = drop_more entries i c.entry-item.result c.loop-entry-test.true
    ∙ ap (λ (e : CatEntry). e ∷ drop (i + 1) entries) (sym c.entry-item.is) in
    one_more entry_bytes entries i c.entry-item.result c.loop-entry.spelled.items c.push.new.self.items c.in_ok-entry_bytes.field-0
    split c.in_ok-entry_bytes.ensures c.in_ok-push.ensures.items c.loop-entry.invariant
