-- The records of nodes that have none make the empty store.
use Rattle.std.proofs.Common.{◌≡◌, ◌<◌, ◌≤◌, ◌+◌, ◌∷◌, ◌∙◌, ℕ, zero, suc, Bool, true, List, [], length, map, reverse, refl, ap, sym, subst, arith}
use Rattle.std.specs.Prelude.{nat_eq, slice_index_or}
use Rattle.std.specs.List.{AllByRecursion, list_all, range_with_len}
use Rattle.std.proofs.lemmas.Bool.{eqb-true}
use Rattle.mn_base.proofs.Booleans.{left_true}
use Rattle.mn_base.specs.Store.{empty_store}
use Rattle.mn_base.specs.declared.ids.NodeNo.{NodeNo}
use Rattle.mn_forest.specs.Base.{base_memory}
use Rattle.mn_forest.proofs.BaseStore.{base_holds, spaces_are}
use Rattle.mn_mini.specs.declared.record.Record.{Record}
use Rattle.mn_mini.specs.Node.{HeldPart, has_decided_no, has_decided_yes, has_executed, held_parts, space_of, with_held}
use Rattle.mn_page.specs.Base.{base_of}
use Rattle.mn_page.specs.Holds.{Holds}
use Rattle.mn_runs.specs.Sound.{AreInPlace, AreSound, is_committed, opened_memory, voted_participants}
use Rattle.mn_law.specs.Opened.{HeldAreGreater}
use Rattle.mn_law.specs.Places.{WritesWhole, content_in, number_in}
use Rattle.mn_runs.specs.Protocol.{base_at, start_of, start_records}
use Rattle.mn_runs.proofs.Bases.{base_there}
use Rattle.mn_top.specs.Opening.{IsOpenedAs}

abbrev pub have_none : List (List Record) → Bool
have_none records = list_all (λ list. nat_eq (length list) 0) records

-- Lists without records

none_at : (records : List (List Record)) (k : ℕ) → have_none records ≡ true → slice_index_or records k [] ≡ []
none_at [] k none = refl
none_at ([] ∷ lists) zero none = refl
none_at ([] ∷ lists) (suc k) none = none_at lists k none
none_at ((r ∷ rs) ∷ lists) k none =
    let long = eqb-true (suc (length rs)) 0 (left_true (nat_eq (suc (length rs)) 0) (have_none lists) none) in
    absurd (omega arith)

pub no_record : (records : List (List Record)) → have_none records ≡ true → (n : NodeNo) → start_records (start_of records) n ≡ []
no_record records none n = ap (λ (l : List Record). reverse l) (none_at records n.0 none)

are_sound : (nodes : ℕ) (lists : NodeNo → List Record) → ((n : NodeNo) → lists n ≡ []) → AreSound nodes lists
are_sound nodes lists none = record {
  in_place = λ n low. subst (AreInPlace nodes n) (sym (none n)) tt;
  same = λ n m tid one other low below first second.
      let both = sym (ap (voted_participants tid) (none n)) ∙ first in absurd cc;
  alone = λ n m tid low below first second.
      let both = sym (ap (λ (l : List Record). has_executed l tid) (none n)) ∙ first in absurd cc;
  yes = λ n tid participants low first second.
      let both = sym (ap (λ (l : List Record). has_decided_yes l tid) (none n)) ∙ first in absurd cc;
  no = λ n m tid low below first.
      let both = sym (ap (λ (l : List Record). has_decided_no l tid) (none n)) ∙ first in absurd cc;
}

are_greater : (nodes : ℕ) (bases : NodeNo → List ℕ) (lists : NodeNo → List Record) → ((n : NodeNo) → lists n ≡ []) → HeldAreGreater nodes bases lists
are_greater nodes bases lists none place numbered low =
    subst
    (AllByRecursion (λ (h : HeldPart). is_committed nodes lists h.tid ≡ true
    → AllByRecursion (WritesWhole place (λ bytes. number_in (content_in (space_of (bases place.node) (lists place.node)) place) < number_in bytes)) h.part))
    (sym (ap (λ (l : List Record). held_parts l) (none place.node))) tt

-- Their memory

all_same : (f : NodeNo → List ℕ) (g : ℕ → List ℕ) (a n : ℕ) → ((m : NodeNo) → m.0 < a + n → f m ≡ g m.0)
    → map f (map (λ k. record { 0 = k }) (range_with_len a n)) ≡ map g (range_with_len a n)
all_same f g a zero each = refl
all_same f g a (suc n) each =
    ap (λ (x : List ℕ). x ∷ map f (map (λ k. record { 0 = k }) (range_with_len (a + 1) n))) (each (record { 0 = a }) (omega arith))
    ∙ ap (λ (l : List (List ℕ)). g a ∷ l) (all_same f g (a + 1) n (λ m low. each m (omega (arith, low))))

space_is : (records : List (List Record)) → have_none records ≡ true → (n : NodeNo) → n.0 < length records
    → with_held (is_committed (length records) (start_records (start_of records)))
    (space_of (base_at (start_of records) n) (start_records (start_of records) n)) (held_parts (start_records (start_of records) n))
    ≡ base_of (length records) n.0
space_is records none n low =
    ap (λ (l : List Record). with_held (is_committed (length records) (start_records (start_of records))) (space_of (base_at (start_of records) n) l) (held_parts l))
    (no_record records none n)
    ∙ base_there (start_of records) n low

memory_is : (records : List (List Record)) → have_none records ≡ true → opened_memory (start_of records) ≡ base_memory (length records)
memory_is records none =
    all_same _ (base_of (length records)) 0 (length records) (λ m low. space_is records none m (omega (arith, low))) ∙ spaces_are (length records)

-- The store

pub fresh_opens : (records : List (List Record)) → have_none records ≡ true → 0 < length records → length records ≤ 8 → IsOpenedAs (start_of records) empty_store
fresh_opens records none some few = record {
  sound = are_sound (length records) (start_records (start_of records)) (no_record records none);
  greater = are_greater (length records) (base_at (start_of records)) (start_records (start_of records)) (no_record records none);
  holds = subst (λ (m : List (List ℕ)). Holds m empty_store) (sym (memory_is records none)) (base_holds (length records) some few);
}
