use Rattle.std.proofs.Common.{◌≡◌, ◌+◌, ◌⊎◌, inl, inr, ℕ, List, Option, Some, length, slice_get, ap, sym, subst, ◌∙◌, arith}
use Rattle.std.proofs.lemmas.List.{length_push}
use Rattle.mn_page.specs.declared.entry.CatEntry.{CatEntry}
use Rattle.mn_forest.specs.Rules.{ReadsAs, entry_place}
use Rattle.mn_flat.proofs.Lists.{pushed_at}
use Rattle.mn_forest.proofs.front.catalog_in.Goals as goal

pub loop-entry-preserved : goal.loop-entry-preserved
loop-entry-preserved c =
    let pushed = c.in_ok-push.ensures.items in
    record {
      places = ap length pushed ∙ length_push c.loop-entry.entries.items c.in_ok-entry_in.field-0 ∙ ap (λ (k : ℕ). k + 1) c.loop-entry.invariant.places;
      each = λ w o at. by w o (pushed_at c.loop-entry.entries.items c.in_ok-entry_in.field-0 o w (ap (λ (l : List (Option CatEntry)). slice_get l w) (sym pushed) ∙ at));
    }
  where
    by : (w : ℕ) (o : Option CatEntry) → (slice_get c.loop-entry.entries.items w ≡ Some o) ⊎ ((w ≡ length c.loop-entry.entries.items) × (o ≡ c.in_ok-entry_in.field-0)) → ReadsAs (entry_place c.args.spaces.now 0 w) o
    by w o (inl here) = c.loop-entry.invariant.each w o here
    by w o (inr last) =
        let place : w ≡ c.loop-entry.entry = last.0 ∙ c.loop-entry.invariant.places in
        subst (λ (x : Option CatEntry). ReadsAs (entry_place c.args.spaces.now 0 w) x) (sym last.1)
        (subst (λ (k : ℕ). ReadsAs (entry_place c.args.spaces.now 0 k) c.in_ok-entry_in.field-0) (sym place)
        (subst (λ (l : List ℕ). ReadsAs l c.in_ok-entry_in.field-0) c.entry_place.ensures.place c.in_ok-entry_in.ensures))

pub returns : goal.returns
returns c = record { places = (let p = c.loop-entry.invariant.places in omega arith); each = c.loop-entry.invariant.each }
