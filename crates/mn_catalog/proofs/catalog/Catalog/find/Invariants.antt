use Rattle.std.proofs.Common.{◌≡◌, ℕ, ◌<◌, slice_get, Some}
use Rattle.mn_page.specs.declared.entry.CatEntry.{CatEntry}
use Rattle.mn_catalog.proofs.catalog.Catalog.find.Given as goal

abbrev pub invariant-loop-version : goal.invariant-loop-version
invariant-loop-version l = (w : ℕ) (e : CatEntry) → w < l.version → slice_get l.entry-items w ≡ Some e → e.name ≡ l.name → ⊥
