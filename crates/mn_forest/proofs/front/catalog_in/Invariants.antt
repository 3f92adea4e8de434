use Rattle.std.proofs.Common.{◌≡◌, ℕ, Option, Some, length, slice_get}
use Rattle.mn_page.specs.declared.entry.CatEntry.{CatEntry}
use Rattle.mn_forest.specs.Rules.{ReadsAs, entry_place}
use Rattle.mn_forest.proofs.front.catalog_in.Given as goal

-- the places so far are read
abbrev pub invariant-loop-entry : goal.invariant-loop-entry
invariant-loop-entry l = record {
  places : length l.entries.items ≡ l.entry;
  each : (w : ℕ) (o : Option CatEntry) → slice_get l.entries.items w ≡ Some o → ReadsAs (entry_place l.spaces 0 w) o;
}
