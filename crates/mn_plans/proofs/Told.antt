-- What met compares tell of a forest, and which numbers writes have.
use Rattle.std.proofs.Common.{◌≡◌, ℕ, zero, suc, ◌+◌, ◌*◌, ◌<◌, ◌≤◌, ◌^◌, inl, inr, List, [], ◌∷◌, length, take, replicate, Option, Some, None, refl, subst, sym, ap, ◌∙◌, arith, slice_index_or, Contains}
use Rattle.std.specs.List.{AllByRecursion}
use Rattle.std.proofs.lemmas.Option.{slice_get_cases}
use Rattle.mn_base.specs.declared.ids.Addr.{Addr}
use Rattle.mn_base.specs.declared.ids.NodeNo.{NodeNo}
use Rattle.mn_mini.specs.Flat.{bytes_in, space_in}
use Rattle.mn_page.specs.declared.page.Page.{Page}
use Rattle.mn_page.specs.declared.entry.CatEntry.{CatEntry}
use Rattle.mn_page.specs.Grammar.{entry_bytes}
use Rattle.mn_page.specs.Forest.{Forest, page_at}
use Rattle.mn_page.proofs.Spelled.{page_length, entry_length, big_bytes-inj}
use Rattle.mn_page.proofs.Counted.{counted, IsCounted}
use Rattle.byteorder.specs.Endian.{big_bytes}
use Rattle.mn_law.specs.Places.{entry_place, catalog_node}
use Rattle.mn_law.specs.Planned.{HasNextNumber, OnNumber, AgreesWith}
use Rattle.mn_plans.specs.Growth.{ComparesTell, NumbersGoOn, count_in, compare_unused, write_entry}
use Rattle.mn_plans.specs.Plans.{compare_page, compare_entry, compare_count}
use Rattle.mn_plans.proofs.Laying.{laid_is}
use Rattle.mn_plans.proofs.Spaces.{memory_by_pages, page_there, page_read, page_node, entry_there, entry_read, node_0, get_in-index}
use Rattle.mn_plans.proofs.Entries.{none_there, unused_read}
use Rattle.mn_plans.proofs.Compares.{IsMet, compares_met, compared_place}
use Rattle.mn_plans.proofs.Sizes.{index_below}
use Rattle.mn_plans.proofs.PutInPlace.{put_numbers, met_page, met_entry}
use Rattle.mn_plans.proofs.Catalogs.{holds_sizes}
use Rattle.mn_plans.proofs.SplitRoot.{count_read, free_read, new_number}

-- what holds of each element holds of one that is there
pub all_there : {X : Type 0} (P : X → Type 0) (xs : List X) (x : X) → AllByRecursion P xs → Contains xs x → P x
all_there P [] x all (k, in', is) = absurd (omega arith)
all_there P (y ∷ xs) x all (zero, in', is) = subst P is all.0
all_there P (y ∷ xs) x all (suc k, in', is) = all_there P xs x all.1 (k, omega arith, is)

-- Compares

pub compares_tell : ComparesTell
compares_tell es memory store holds items hold = record {
  pages = λ addr p there shown in' spelled.
      page_there holds.forest sound addr p in' spelled
      (ap (λ (m : List (List ℕ)). bytes_in (space_in m addr.node) (20480 + 1024 * addr.slot) 1024) (sym is_spelled)
      ∙ met_page es memory addr p sizes (all_there (IsMet memory) items (compare_page addr p) mets there) (all_there (OnNumber (AgreesWith es memory)) items (compare_page addr p) hold.agrees there) shown);
  entries = λ n v e there shown in' few spelled.
      entry_there holds.forest sound n v e in' few spelled
      (ap (λ (m : List (List ℕ)). bytes_in (space_in m n) (64 + 64 * v) 64) (sym is_spelled)
      ∙ met_entry es memory n v e few (all_there (OnNumber (AgreesWith es memory)) items (compare_entry n v e) hold.agrees there) shown);
  unused = λ v there shown few.
      none_there holds.forest sound node_0 v sound.nodes.0 few
      (ap (λ (m : List (List ℕ)). bytes_in (space_in m node_0) (64 + 64 * v) 64) (sym is_spelled)
      ∙ compared_place es memory (entry_place catalog_node v) (replicate 8 0) (replicate 64 0) (inr (catalog_node, v, few, refl)) refl (all_there (OnNumber (AgreesWith es memory)) items (compare_unused v) hold.agrees there) shown);
  counts = λ n count there in' low.
      let size : count_in holds.forest n.0 ≤ 4096 = index_below holds.forest.pages n.0 sound.counts in
      big_bytes-inj 8 count (count_in holds.forest n.0) low (omega arith)
      (sym (ap (λ (m : List (List ℕ)). bytes_in (space_in m n) 16 8) (sym is_spelled) ∙ all_there (IsMet memory) items (compare_count n count) mets there) ∙ count_read holds.forest sound n in');
}
  where
    sound : IsCounted holds.forest
    sound = counted holds.forest holds.sound

    is_spelled : memory ≡ memory_by_pages holds.forest
    is_spelled = holds.spelled ∙ laid_is holds.forest

    sizes : AllByRecursion (λ space. length space ≡ 4214784) memory
    sizes = holds_sizes memory store holds

    mets : AllByRecursion (IsMet memory) items
    mets = compares_met es memory items hold

-- Numbers

-- an entry written over another one, or into an unused place
entry_number : (memory : List (List ℕ)) (n : NodeNo) (v k : ℕ) (old : List ℕ) (now : CatEntry) → bytes_in (space_in memory n) (64 + 64 * v) 64 ≡ old → take 8 old ≡ big_bytes 8 k → length (entry_bytes now) ≡ 64 → now.seq ≡ k + 1 → k + 1 < 2 ^ 64
    → HasNextNumber memory (write_entry n v now)
entry_number memory n v k old now read first long next low =
    inr (k, low, ap (λ size. take 8 (bytes_in (space_in memory n) (64 + 64 * v) size)) long ∙ (ap (take 8) read ∙ first), ap (big_bytes 8) next)

-- a slot with no page stands behind those of its node
pub past_pages : (f : Forest) (addr : Addr) → page_at f addr ≡ None → length (slice_index_or f.pages addr.node.0 []) ≤ addr.slot
past_pages f addr free =
    elim ((slice_get_cases (slice_index_or f.pages addr.node.0 []) addr.slot).1) as (λ _. length (slice_index_or f.pages addr.node.0 []) ≤ addr.slot) [
      | inl found ↦ absurd (clash found.0 (sym free ∙ (sym (get_in-index f.pages addr.node.0 addr.slot) ∙ found.2)))
      | inr past ↦ past.0
    ]
  where
    clash : (x : Page) → ◌≡◌ {A = Option Page} None (Some x) → ⊥
    clash x e = cc

pub numbers_go_on : NumbersGoOn
numbers_go_on memory store holds = record {
  changed = λ addr was now there spelled next.
      put_numbers memory addr was now
      (ap (λ (m : List (List ℕ)). bytes_in (space_in m addr.node) (20480 + 1024 * addr.slot) 1024) is_spelled ∙ page_read holds.forest sound addr was (page_node holds.forest addr was there) there)
      (page_length now spelled) next (subst (λ k. k < 2 ^ 64) next spelled.seq_high);
  new = λ addr now free in' room spelled first.
      new_number memory addr.node addr.slot now
      (ap (λ (m : List (List ℕ)). bytes_in (space_in m addr.node) (20480 + 1024 * addr.slot) 1024) is_spelled ∙ free_read holds.forest sound addr.node addr.slot in' (past_pages holds.forest addr free) room)
      (page_length now spelled) first;
  entries = λ n v was now in' there spelled next.
      entry_number memory n v was.seq (entry_bytes was) now
      (ap (λ (m : List (List ℕ)). bytes_in (space_in m n) (64 + 64 * v) 64) is_spelled ∙ entry_read holds.forest sound n v was in' there)
      refl (entry_length now spelled) next (subst (λ k. k < 2 ^ 64) next spelled.seq_high);
  next = λ n now in' few spelled first.
      entry_number memory n (length holds.forest.entries) 0 (replicate 64 0) now
      (ap (λ (m : List (List ℕ)). bytes_in (space_in m n) (64 + 64 * length holds.forest.entries) 64) is_spelled ∙ unused_read holds.forest sound n (length holds.forest.entries) in' few (omega arith))
      refl (entry_length now spelled) first (omega arith);
  counts = λ n count. inl (n, refl);
}
  where
    sound : IsCounted holds.forest
    sound = counted holds.forest holds.sound

    is_spelled : memory ≡ memory_by_pages holds.forest
    is_spelled = holds.spelled ∙ laid_is holds.forest
