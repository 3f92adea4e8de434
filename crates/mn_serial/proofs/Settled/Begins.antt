-- What an opened start keeps of contents, and what a plan that acts writes at a place.
use Rattle.std.proofs.Common.{◌≡◌, ℕ, ◌+◌, ◌<◌, ◌≤◌, ◌⊎◌, inl, inr, Bool, true, false, List, [], ◌∷◌, ◌++◌, length, refl, subst, sym, ap, ◌∙◌, arith, get_or, if◌then◌else◌}
use Rattle.std.specs.List.{AllByRecursion, flat_map}
use Rattle.std.proofs.lemmas.List.Elements.{All-from_recursion}
use Rattle.mn_base.specs.Ids.{node_same}
use Rattle.mn_base.specs.declared.ids.NodeNo.{NodeNo}
use Rattle.mn_base.specs.Store.{Store}
use Rattle.mn_base.proofs.Booleans.{clash}
use Rattle.mn_base.proofs.Lists.{all_append}
use Rattle.mn_mini.specs.declared.item.Item.{Item}
use Rattle.mn_mini.specs.declared.item.Item.TheVariants.{Compare, Read, Write}
use Rattle.mn_mini.specs.declared.part.PartItem.{PartItem}
use Rattle.mn_mini.specs.declared.part.PartItem.TheVariants as Bare
use Rattle.mn_mini.specs.Mini.{Mini, compare_at, read_at, write_at, part_of, is_read, range_of}
use Rattle.mn_mini.specs.Flat.{bytes_in, space_in}
use Rattle.mn_mini.specs.Node.{held_parts, space_of}
use Rattle.mn_mini.proofs.Fits.{length-space_of}
use Rattle.mn_mini.proofs.Parts.{same_true}
use Rattle.mn_page.specs.Holds.{Holds}
use Rattle.mn_runs.specs.declared.entry.Entry.{Entry}
use Rattle.mn_runs.specs.Seen.{Place}
use Rattle.mn_law.specs.Places.{IsNumbered, number_in, content_in, place_range, WritesWhole}
use Rattle.mn_law.specs.Planned.{write_place, write_places, IsWholePlace, HasNextNumber, IsNextNumber}
use Rattle.mn_runs.specs.Protocol.{Start, start_nodes, base_at, start_records}
use Rattle.mn_law.specs.Opened.{HeldAreGreater}
use Rattle.mn_runs.specs.Sound.{is_committed, opened_memory}
use Rattle.mn_serial.specs.Settled.{flat_content, own_content, HadContent}
use Rattle.mn_commits.proofs.Bytes.Spaces.{length-memory_in, space-memory_in}
use Rattle.mn_plans.proofs.Catalogs.{holds_sizes}
use Rattle.mn_serial.proofs.Settled.Numbers.{front_tells, next_is}
use Rattle.mn_serial.proofs.Settled.Ranges.{AreApart, apart_unmet, place_cases, numbered_no_count, numbered_fits}
use Rattle.mn_serial.proofs.Settled.Parts.{layers_on, length-layers}
use Rattle.mn_serial.proofs.Settled.Kept.{KeptAt}

-- The start

empty_parts : {X : Type 0} (xs ys : List X) → [] ≡ xs ++ ys → ys ≡ []
empty_parts [] ys e = sym e
empty_parts (x ∷ xs) ys e = absurd cc

-- a base space is as long as it has to be
pub base_fits : (start : Start) (store : Store) (place : Place) → Holds (opened_memory start) store → IsNumbered place → place.node.0 < start_nodes start → place.start + place.length ≤ length (base_at start place.node)
base_fits start store place holds numbered low =
    let n = place.node in
    let lists = start_records start in
    let each = All-from_recursion (λ space. length space ≡ 4214784) (opened_memory start) (holds_sizes (opened_memory start) store holds) n.0 [] (subst (λ (k : ℕ). n.0 < k) (sym (length-memory_in (start_nodes start) (base_at start) lists)) low) in
    let long : length (base_at start n) ≡ 4214784 =
    sym (length-space_of (base_at start n) (lists n))
    ∙ (sym (length-layers (is_committed (start_nodes start) lists) (space_of (base_at start n) (lists n)) (held_parts (lists n)))
    ∙ (sym (ap (λ (l : List ℕ). length l) (space-memory_in (start_nodes start) (base_at start) lists n low)) ∙ each)) in
    let inside = (numbered_fits place numbered).0 in
    subst (λ (k : ℕ). place.start + place.length ≤ k) (sym long) inside

pub kept_start : (start : Start) (store : Store) (place : Place) → Holds (opened_memory start) store → HeldAreGreater (start_nodes start) (base_at start) (start_records start) → IsNumbered place → place.node.0 < start_nodes start → KeptAt start [] place
kept_start start store place holds greater numbered low = record { below = below; settled = record { one = one; rises = rises }; greater = greater place numbered low }
  where
    -- the flat memory has the space's content, or a greater number
    opens : (flat_content start [] place ≡ own_content start [] place) ⊎ (number_in (own_content start [] place) < number_in (flat_content start [] place))
    opens = by (layers_on place (λ bytes. number_in (own_content start [] place) < number_in bytes) (is_committed (start_nodes start) (start_records start)) (space_of (base_at start place.node) (start_records start place.node)) (held_parts (start_records start place.node))
        (subst (λ (k : ℕ). place.start + place.length ≤ k) (sym (length-space_of (base_at start place.node) (start_records start place.node))) (base_fits start store place holds numbered low)) (greater place numbered low))
      where
        laid : space_in (opened_memory start) place.node ≡ Rattle.mn_mini.specs.Node.with_held (is_committed (start_nodes start) (start_records start)) (space_of (base_at start place.node) (start_records start place.node)) (held_parts (start_records start place.node))
        laid = space-memory_in (start_nodes start) (base_at start) (start_records start) place.node low

        by : (content_in (Rattle.mn_mini.specs.Node.with_held (is_committed (start_nodes start) (start_records start)) (space_of (base_at start place.node) (start_records start place.node)) (held_parts (start_records start place.node))) place ≡ own_content start [] place)
            ⊎ ((bytes : List ℕ) × (number_in (own_content start [] place) < number_in bytes) × (content_in (Rattle.mn_mini.specs.Node.with_held (is_committed (start_nodes start) (start_records start)) (space_of (base_at start place.node) (start_records start place.node)) (held_parts (start_records start place.node))) place ≡ bytes))
            → (flat_content start [] place ≡ own_content start [] place) ⊎ (number_in (own_content start [] place) < number_in (flat_content start [] place))
        by (inl same) = inl (ap (λ (l : List ℕ). content_in l place) laid ∙ same)
        by (inr (bytes, more, is)) = inr (subst (λ (l : List ℕ). number_in (own_content start [] place) < number_in l) (sym (ap (λ (l : List ℕ). content_in l place) laid ∙ is)) more)

    had : (bytes : List ℕ) → HadContent start [] place bytes → (bytes ≡ flat_content start [] place) ⊎ (bytes ≡ own_content start [] place)
    had bytes (later, before, split, inl is) = inl (is ∙ ap (λ (es : List Entry). flat_content start es place) (empty_parts later before split))
    had bytes (later, before, split, inr is) = inr (is ∙ ap (λ (es : List Entry). own_content start es place) (empty_parts later before split))

    below : (bytes : List ℕ) → HadContent start [] place bytes → (bytes ≡ flat_content start [] place) ⊎ (number_in bytes < number_in (flat_content start [] place))
    below bytes h = by (had bytes h) opens
      where
        by : (bytes ≡ flat_content start [] place) ⊎ (bytes ≡ own_content start [] place) → (flat_content start [] place ≡ own_content start [] place) ⊎ (number_in (own_content start [] place) < number_in (flat_content start [] place))
            → (bytes ≡ flat_content start [] place) ⊎ (number_in bytes < number_in (flat_content start [] place))
        by (inl is) o = inl is
        by (inr is) (inl same) = inl (is ∙ sym same)
        by (inr is) (inr more) = inr (subst (λ (l : List ℕ). number_in l < number_in (flat_content start [] place)) (sym is) more)

    one : (a b : List ℕ) → HadContent start [] place a → HadContent start [] place b → Rattle.std.specs.Prelude.take 8 a ≡ Rattle.std.specs.Prelude.take 8 b → a ≡ b
    one a b x y front = by (had a x) (had b y) opens
      where
        number : number_in a ≡ number_in b
        number = front_tells a b front

        by : (a ≡ flat_content start [] place) ⊎ (a ≡ own_content start [] place) → (b ≡ flat_content start [] place) ⊎ (b ≡ own_content start [] place)
            → (flat_content start [] place ≡ own_content start [] place) ⊎ (number_in (own_content start [] place) < number_in (flat_content start [] place)) → a ≡ b
        by (inl p) (inl q) o = p ∙ sym q
        by (inr p) (inr q) o = p ∙ sym q
        by (inl p) (inr q) (inl same) = p ∙ (same ∙ sym q)
        by (inr p) (inl q) (inl same) = p ∙ (sym same ∙ sym q)
        by (inl p) (inr q) (inr more) = let u = ap number_in p in let v = ap number_in q in absurd (omega (arith, u, v, more, number))
        by (inr p) (inl q) (inr more) = let u = ap number_in p in let v = ap number_in q in absurd (omega (arith, u, v, more, number))

    rises : (later between before : List Entry) → [] ≡ later ++ (between ++ before) → number_in (flat_content start before place) ≤ number_in (flat_content start (between ++ before) place)
    rises later between before split =
        let inner : between ++ before ≡ [] = empty_parts later (between ++ before) split in
        let last : before ≡ [] = empty_parts between before (sym inner) in
        let same : number_in (flat_content start before place) ≡ number_in (flat_content start (between ++ before) place) = ap (λ (es : List Entry). number_in (flat_content start es place)) (last ∙ sym inner) in
        omega (arith, same)

-- A plan

abbrev pub NextAt : List (List ℕ) → Place → List PartItem → Type 0
NextAt memory place part = AllByRecursion (WritesWhole place (λ bytes. number_in (content_in (space_in memory place.node) place) + 1 ≡ number_in bytes)) part

one_write : (memory : List (List ℕ)) (place : Place) → IsNumbered place → (node : NodeNo) (start : ℕ) (bytes : List ℕ) → place.node ≡ node → IsWholePlace (record { node = node; start = start; length = length bytes }) → HasNextNumber memory (Write node start bytes)
    → WritesWhole place (λ b. number_in (content_in (space_in memory place.node) place) + 1 ≡ number_in b) (Bare.Write start bytes)
one_write memory place numbered node start bytes at whole next meets = by (place_cases place (record { node = node; start = start; length = length bytes }) numbered whole at) next
  where
    by : (place ≡ record { node = node; start = start; length = length bytes }) ⊎ AreApart place (record { node = node; start = start; length = length bytes }) → HasNextNumber memory (Write node start bytes)
        → (start ≡ place.start) × (length bytes ≡ place.length) × (number_in (content_in (space_in memory place.node) place) + 1 ≡ number_in bytes)
    by (inr apart) next = absurd (clash _ meets (apart_unmet place (record { node = node; start = start; length = length bytes }) apart))
    by (inl same) (inl count) = absurd (numbered_no_count place numbered (subst Rattle.mn_law.specs.Places.IsCountPlace (sym same) count))
    by (inl same) (inr next) = (
      sym (ap (λ (p : Place). p.start) same),
      sym (ap (λ (p : Place). p.length) same),
      subst (λ (p : Place). number_in (content_in (space_in memory p.node) p) + 1 ≡ number_in bytes) (sym same) (next_is (bytes_in (space_in memory node) start (length bytes)) bytes next),
    )

writes_at : (memory : List (List ℕ)) (place : Place) → IsNumbered place → (items : List Item) → AllByRecursion IsWholePlace (flat_map write_place items) → AllByRecursion (HasNextNumber memory) items → NextAt memory place (flat_map (write_at place.node) items)
writes_at memory place numbered [] whole next = tt
writes_at memory place numbered (Compare node start bytes ∷ items) whole next = writes_at memory place numbered items whole next.1
writes_at memory place numbered (Read node start n ∷ items) whole next = writes_at memory place numbered items whole next.1
writes_at memory place numbered (Write node start bytes ∷ items) whole next =
    elim (node_same node place.node) as (λ b. node_same node place.node ≡ b → NextAt memory place ((if b then Bare.Write start bytes ∷ [] else []) ++ flat_map (write_at place.node) items)) [
      | true ↦ λ e. (one_write memory place numbered node start bytes (sym (same_true node place.node e)) whole.0 next.0, writes_at memory place numbered items whole.1 next.1)
      | false ↦ λ _. writes_at memory place numbered items whole.1 next.1
    ] refl

compares_at : (P : List ℕ → Type 0) (place : Place) (n : NodeNo) (items : List Item) → AllByRecursion (WritesWhole place P) (flat_map (compare_at n) items)
compares_at P place n [] = tt
compares_at P place n (Compare node start bytes ∷ items) = elim (node_same node n) as (λ b. AllByRecursion (WritesWhole place P) ((if b then Bare.Compare start bytes ∷ [] else []) ++ flat_map (compare_at n) items)) [
  | true ↦ (tt, compares_at P place n items)
  | false ↦ compares_at P place n items
]
compares_at P place n (Read node start k ∷ items) = compares_at P place n items
compares_at P place n (Write node start bytes ∷ items) = compares_at P place n items

reads_at : (P : List ℕ → Type 0) (place : Place) (n : NodeNo) (items : List Item) → AllByRecursion (WritesWhole place P) (flat_map (read_at n) items)
reads_at P place n [] = tt
reads_at P place n (Compare node start bytes ∷ items) = reads_at P place n items
reads_at P place n (Read node start k ∷ items) = elim (node_same node n) as (λ b. AllByRecursion (WritesWhole place P) ((if b then Bare.Read start k ∷ [] else []) ++ flat_map (read_at n) items)) [
  | true ↦ (tt, reads_at P place n items)
  | false ↦ reads_at P place n items
]
reads_at P place n (Write node start bytes ∷ items) = reads_at P place n items

-- whole writes with next numbers: at a place with a number a part writes nothing, or the next
pub plan_next : (memory : List (List ℕ)) (place : Place) → IsNumbered place → (mini : Mini) → AllByRecursion IsWholePlace (write_places mini) → AllByRecursion (HasNextNumber memory) mini.items → NextAt memory place (part_of mini place.node)
plan_next memory place numbered mini whole next =
    all_append (WritesWhole place (λ bytes. number_in (content_in (space_in memory place.node) place) + 1 ≡ number_in bytes)) (flat_map (compare_at place.node) mini.items ++ flat_map (read_at place.node) mini.items) (flat_map (write_at place.node) mini.items)
    (all_append (WritesWhole place (λ bytes. number_in (content_in (space_in memory place.node) place) + 1 ≡ number_in bytes)) (flat_map (compare_at place.node) mini.items) (flat_map (read_at place.node) mini.items)
    (compares_at (λ bytes. number_in (content_in (space_in memory place.node) place) + 1 ≡ number_in bytes) place place.node mini.items)
    (reads_at (λ bytes. number_in (content_in (space_in memory place.node) place) + 1 ≡ number_in bytes) place place.node mini.items))
    (writes_at memory place numbered mini.items whole next)

-- a read writes nothing
pub read_next : (memory : List (List ℕ)) (place : Place) (nodes : ℕ) (items : List Item) → is_read items ≡ true → NextAt memory place (part_of (record { nodes = nodes; items = items }) place.node)
read_next memory place nodes [] e = absurd cc
read_next memory place nodes (Read node start n ∷ []) e = elim (node_same node place.node) as (λ b. NextAt memory place (((if b then Bare.Read start n ∷ [] else []) ++ []) ++ [])) [
  | true ↦ (tt, tt)
  | false ↦ tt
]
read_next memory place nodes (Read node start n ∷ (i ∷ is)) e = absurd cc
read_next memory place nodes (Compare node start bytes ∷ items) e = absurd cc
read_next memory place nodes (Write node start bytes ∷ items) e = absurd cc
