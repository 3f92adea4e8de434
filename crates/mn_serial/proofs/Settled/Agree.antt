-- Where a plan's compares hold in the flat memory, that agrees with what its client's list has shown.
use Rattle.std.proofs.Common.{◌≡◌, ℕ, zero, suc, ◌+◌, ◌<◌, ◌≤◌, inl, inr, List, [], ◌∷◌, ◌++◌, length, take, drop, refl, subst, sym, ap, ◌∙◌, arith, Contains}
use Rattle.std.specs.List.{AllByRecursion}
use Rattle.std.proofs.lemmas.List.{append_assoc}
use Rattle.mn_base.specs.Store.{Store}
use Rattle.mn_base.specs.declared.ids.NodeNo.{NodeNo}
use Rattle.mn_base.specs.declared.ids.ClientNo.{ClientNo}
use Rattle.mn_base.proofs.Lists.{all_both}
use Rattle.mn_mini.specs.declared.item.Item.{Item}
use Rattle.mn_mini.specs.declared.item.Item.TheVariants.{Compare, Read, Write}
use Rattle.mn_mini.specs.Mini.{IsSoundItem}
use Rattle.mn_mini.specs.Flat.{bytes_in, space_in}
use Rattle.mn_mini.specs.Node.{space_of}
use Rattle.mn_runs.specs.declared.entry.Entry.{Entry}
use Rattle.mn_runs.specs.Calls.{client_entries}
use Rattle.mn_runs.specs.Seen.{Place, Seen}
use Rattle.mn_page.specs.Holds.{Holds}
use Rattle.mn_law.specs.Places.{entry_place, catalog_node, at_catalog, IsNumbered, front_place, content_in}
use Rattle.mn_law.specs.Planned.{OnNumber, AgreesWith}
use Rattle.mn_law.specs.Shown.{shown_in, GivesPlace, TellsPlace, ShowsNumber}
use Rattle.mn_runs.specs.Protocol.{Start, start_nodes, base_at, records_of, FollowsProtocol}
use Rattle.mn_serial.specs.Settled.{flat_content, HadContent}
use Rattle.mn_commits.proofs.Bytes.Step.{flat}
use Rattle.mn_plans.proofs.Compares.{IsMet}
use Rattle.mn_plans.proofs.AlikeEntries.{entries_alike}
use Rattle.mn_serial.proofs.Settled.Kept.{KeptAt}
use Rattle.mn_serial.proofs.Settled.Ranges.{numbered_fits}
use Rattle.mn_law.proofs.Last.{first_exists, first_from}
use Rattle.mn_serial.proofs.Settled.Shown.{WasShown, shown_stood, given_content}

take_front : (n m : ℕ) (xs : List ℕ) → n ≤ m → take n (take m xs) ≡ take n xs
take_front zero m xs le = refl
take_front (suc n) zero xs le = absurd (omega arith)
take_front (suc n) (suc m) [] le = refl
take_front (suc n) (suc m) (x ∷ xs) le = ap (λ (l : List ℕ). x ∷ l) (take_front n m xs (omega arith))

pub front_of_content : (space : List ℕ) (place : Place) → IsNumbered place → take 8 (content_in space place) ≡ bytes_in space place.start 8
front_of_content space place numbered = take_front 8 place.length (drop place.start space) (numbered_fits place numbered).1

module _ (start : Start) (past later before : List Entry) (split : past ≡ later ++ before) (run : FollowsProtocol start before) (contents : (place : Place) → IsNumbered place → place.node.0 < start_nodes start → KeptAt start past place) (store : Store) (holds : Holds (flat start past) store) (spaces : length (flat start past) ≡ start_nodes start)
    (c : ClientNo) where
  -- an entry stands alike on each node
  alike_entries : (place : Place) (n : NodeNo) (v : ℕ) → v < 64 → place ≡ entry_place n v → place.node.0 < start_nodes start → flat_content start past place ≡ flat_content start past (at_catalog place)
  alike_entries place n v few is low =
      ap (λ (p : Place). content_in (space_in (flat start past) p.node) p) is
      ∙ (entries_alike (flat start past) store holds n v (subst (λ k. n.0 < k) (sym spaces) (subst (λ (m : NodeNo). m.0 < start_nodes start) (ap (λ (p : Place). p.node) is) low)) few
      ∙ sym (ap (λ (p : Place). content_in (space_in (flat start past) catalog_node) p) (ap at_catalog is)))

  -- what a read of the list gave of a place, the place had
  had_shown : (place : Place) (seen : Seen) (bytes : List ℕ) → Contains (shown_in (client_entries c before)) seen → GivesPlace seen place bytes → HadContent start past place bytes
  had_shown place seen bytes has gives =
      let w : WasShown start before seen = shown_stood start before c seen run has in
      let is : bytes ≡ bytes_in (space_of (base_at start seen.place.node) (records_of start w.before seen.place.node)) place.start place.length = given_content (space_of (base_at start seen.place.node) (records_of start w.before seen.place.node)) seen place bytes w.stood gives in (
        later ++ w.later,
        w.before,
        split ∙ (ap (λ (es : List Entry). later ++ es) w.split ∙ sym (append_assoc later w.later w.before)),
        inr (is ∙ ap (λ (n : NodeNo). bytes_in (space_of (base_at start n) (records_of start w.before n)) place.start place.length) gives.node),
      )

  -- what a read told of a place with the number that the place has is what the place has: of an entry the memory, which
  -- holds a store, has the same on the node from which the catalog is read
  told_is : (place : Place) (seen : Seen) (bytes : List ℕ) → IsNumbered place → place.node.0 < start_nodes start → Contains (shown_in (client_entries c before)) seen → TellsPlace seen place bytes → take 8 bytes ≡ take 8 (flat_content start past place) → bytes ≡ flat_content start past place
  told_is place seen bytes numbered low has (inl gives) same = (contents place numbered low).settled.one bytes (flat_content start past place) (had_shown place seen bytes has gives) ([], past, refl, inl refl) same
  told_is place seen bytes numbered low has (inr ((n, v, few, is), gives)) same =
      let first : at_catalog place ≡ entry_place catalog_node v = ap at_catalog is in
      let alike : flat_content start past place ≡ flat_content start past (at_catalog place) = alike_entries place n v few is low in
      (contents (at_catalog place) (inr (catalog_node, v, few, first)) (omega (arith, low))).settled.one bytes (flat_content start past (at_catalog place)) (had_shown (at_catalog place) seen bytes has gives) ([], past, refl, inl refl) (same ∙ ap (take 8) alike)
      ∙ sym alike

  agrees_at : (place : Place) (number : List ℕ) → IsNumbered place → place.node.0 < start_nodes start → bytes_in (space_in (flat start past) place.node) place.start 8 ≡ number → ShowsNumber (client_entries c before) place number → AgreesWith (client_entries c before) (flat start past) place number
  agrees_at place number numbered low met (bytes, (seen, has, gives), begins) =
      let last = first_exists (shown_in (client_entries c before)) place number seen bytes has (gives, begins) in
      let from = first_from (shown_in (client_entries c before)) place number last.0 last.1 in
      let front : take 8 (flat_content start past place) ≡ number = front_of_content (space_in (flat start past) place.node) place numbered ∙ met in
      let same : last.0 ≡ flat_content start past place =
      told_is place from.0 last.0 numbered low from.1 from.2.0 (from.2.1 ∙ sym front) in
      subst (λ (b : List ℕ). Rattle.mn_law.specs.Shown.FirstGives (shown_in (client_entries c before)) place number b) same last.1

  pub agrees : (nodes : ℕ) → nodes ≡ start_nodes start → (items : List Item) → AllByRecursion (IsSoundItem nodes) items → AllByRecursion (IsMet (flat start past)) items → AllByRecursion (OnNumber (ShowsNumber (client_entries c before))) items
      → AllByRecursion (OnNumber (AgreesWith (client_entries c before) (flat start past))) items
  agrees nodes are items sound met shown =
      all_both (λ i. IsSoundItem nodes i × IsMet (flat start past) i) (OnNumber (ShowsNumber (client_entries c before))) (OnNumber (AgreesWith (client_entries c before) (flat start past))) each items
      (all_both (IsSoundItem nodes) (IsMet (flat start past)) (λ i. IsSoundItem nodes i × IsMet (flat start past) i) (λ i p q. (p, q)) items sound met) shown
    where
      each : (i : Item) → IsSoundItem nodes i × IsMet (flat start past) i → OnNumber (ShowsNumber (client_entries c before)) i → OnNumber (AgreesWith (client_entries c before) (flat start past)) i
      each (Read node at n) ok s = tt
      each (Write node at bytes) ok s = tt
      each (Compare node at bytes) ok s = λ place numbered front.
          let node_is : place.node ≡ node = ap (λ (p : Place). p.node) front in
          let at_is : place.start ≡ at = ap (λ (p : Place). p.start) front in
          let long : 8 ≡ length bytes = ap (λ (p : Place). p.length) front in
          agrees_at place bytes numbered (subst (λ (k : ℕ). place.node.0 < k) are (subst (λ (m : NodeNo). m.0 < nodes) (sym node_is) ok.0.0.0))
          (ap (λ (m : NodeNo). bytes_in (space_in (flat start past) m) place.start 8) node_is ∙ (ap (λ (k : ℕ). bytes_in (space_in (flat start past) node) k 8) at_is ∙ (ap (λ (k : ℕ). bytes_in (space_in (flat start past) node) at k) long ∙ ok.1)))
          (s place numbered front)
