use Rattle.std.proofs.Common.{◌≡◌, ◌≤◌, ℕ, List, Option, length, ap, sym, subst, ◌∙◌}
use Rattle.std.specs.List.{AllByRecursion}
use Rattle.std.proofs.lemmas.Result.{err_from_is_err_and}
use Rattle.mn_base.specs.Stores.{IsStore}
use Rattle.mn_mini.specs.Mini.{space_size}
use Rattle.mn_page.specs.declared.entry.CatEntry.{CatEntry}
use Rattle.mn_page.specs.Holds.{Holds, PagesAt}
use Rattle.mn_forest.specs.Rules.{AllPass, entries_of}
use Rattle.mn_forest.specs.Refusal.{RefusesMemory, IsLackOfMemory}
use Rattle.mn_forest.specs.Shown.{ArePages, store_shown}
use Rattle.mn_forest.proofs.Checked.{gathered_holds, gathered_store, holding_lacks}
use Rattle.mn_forest.proofs.forest.check.Goals as goal

pub returns-in_err-test_all-clause-holds : goal.returns-in_err-test_all-clause-holds
returns-in_err-test_all-clause-holds c = λ store holds.
    let p = err_from_is_err_and c.from_residual-in_err-test_all.result c.from_residual-in_err-test_all.ensures.1 in
    let e = c.in_err-test_all.field-0.0 in
    let why = subst (λ (m : List (List ℕ)). RefusesMemory m c.in_err-test_all.field-0.0) c.as_slice-spaces.ensures c.in_err-test_all.ensures.fails in
    rw p.1 (subst IsLackOfMemory (sym p.2) (holding_lacks c.args.spaces.now c.in_err-test_all.field-0.0 why store holds))

pub store_in-requires-clause-shows : goal.store_in-requires-clause-shows
store_in-requires-clause-shows c =
    let same : c.args.spaces.now ≡ c.as_slice-spaces.result.now = sym c.as_slice-spaces.ensures in
    let es = c.in_ok-entries.entries.items in
    subst (λ (l : List (Option CatEntry)). (at : PagesAt) × ArePages c.as_slice-spaces.result.now at × IsStore (store_shown at (entries_of l))) (sym c.deref-2.ensures.value)
    (gathered_store c.as_slice-spaces.result.now es (subst (λ (x : List (List ℕ)). 1 ≤ length x) same c.requires.some) (subst (λ (x : List (List ℕ)). length x ≤ 8) same c.requires.few)
    (subst (λ (x : List (List ℕ)). AllByRecursion (λ space. length space ≡ space_size) x) same c.requires.whole) c.in_ok-entries.ensures
    (subst (λ (l : List (Option CatEntry)). AllPass c.as_slice-spaces.result.now l) c.deref.ensures.value c.in_ok-test_all.ensures.passes))

pub returns-clause-store : goal.returns-clause-store
returns-clause-store c =
    let m = c.as_slice-spaces.result.now in
    let same : c.args.spaces.now ≡ c.as_slice-spaces.result.now = sym c.as_slice-spaces.ensures in
    let es = c.in_ok-entries.entries.items in
    subst (λ (x : List (List ℕ)). Holds x c.in_ok-store_in.field-0) c.as_slice-spaces.ensures
    (gathered_holds c.as_slice-spaces.result.now c.in_ok-entries.entries.items (subst (λ (x : List (List ℕ)). 1 ≤ length x) same c.requires.some) (subst (λ (x : List (List ℕ)). length x ≤ 8) same c.requires.few)
    (subst (λ (x : List (List ℕ)). AllByRecursion (λ space. length space ≡ space_size) x) same c.requires.whole) c.in_ok-entries.ensures
    (subst (λ (l : List (Option CatEntry)). AllPass c.as_slice-spaces.result.now l) c.deref.ensures.value c.in_ok-test_all.ensures.passes) c.in_ok-store_in.field-0
    (λ at are. c.in_ok-store_in.ensures at are ∙ ap (λ (l : List (Option CatEntry)). store_shown at (entries_of l)) c.deref-2.ensures.value))
