-- What holds where a plan's compares hold, and small facts on places and catalogs that each plan
-- needs.
use Rattle.std.proofs.Common.{◌≡◌, ℕ, zero, suc, ◌+◌, ◌*◌, ◌<◌, inl, inr, Bool, true, false, List, [], ◌∷◌, length, map, Option, Some, None, refl, subst, sym, ap, ◌∙◌, arith, if◌then◌else◌, slice_get, Contains}
use Rattle.std.specs.Prelude.{nat_lt, ⊤, ◌↔◌, bytes_eq}
use Rattle.std.specs.List.{AllByRecursion}
use Rattle.std.specs.Option.{option_map}
use Rattle.std.proofs.lemmas.Bool.{ne_eqb, lt-ltb, le-ltb}
use Rattle.mn_base.specs.Store.{Head, number_named}
use Rattle.mn_base.specs.declared.ids.NodeNo.{NodeNo}
use Rattle.mn_mini.specs.declared.item.Item.{Item}
use Rattle.mn_mini.specs.declared.item.Item.TheVariants.{Compare, Read, Write}
use Rattle.mn_mini.specs.Flat.{bytes_in, space_in, mismatch_from}
use Rattle.mn_base.proofs.Keys.{bytes_eq-true}
use Rattle.mn_runs.specs.declared.entry.Entry.{Entry}
use Rattle.mn_runs.specs.Seen.{Place}
use Rattle.mn_law.specs.Places.{page_place, entry_place, IsNumbered, front_place, content_in}
use Rattle.mn_law.specs.Shown.{shown_in, ShowsLast, ShowsNumber}
use Rattle.mn_law.specs.Planned.{place_rank, OnNumber, AgreesWith, ComparesHold, ContinuesCatalog}
use Rattle.mn_law.proofs.Last.{first_once, first_from}

-- the bytes compared are in place
abbrev pub IsMet : List (List ℕ) → Item → Type 0
IsMet memory (Compare node start bytes) = bytes_in (space_in memory node) start (length bytes) ≡ bytes
IsMet memory (Read node start n) = ⊤
IsMet memory (Write node start bytes) = ⊤

pub all_met : (memory : List (List ℕ)) (i : ℕ) (items : List Item) → mismatch_from memory i items ≡ None → AllByRecursion (IsMet memory) items
all_met memory i [] e = tt
all_met memory i (Compare node start bytes ∷ items) e = cases (bytes_eq (bytes_in (space_in memory node) start (length bytes)) bytes) refl e (λ f. all_met memory (i + 1) items f)
  where
    cases : (b : Bool) → bytes_eq (bytes_in (space_in memory node) start (length bytes)) bytes ≡ b
        → (if b then mismatch_from memory (i + 1) items else Some (record { item = i; found = bytes_in (space_in memory node) start (length bytes) })) ≡ None
        → (mismatch_from memory (i + 1) items ≡ None → AllByRecursion (IsMet memory) items) → (bytes_in (space_in memory node) start (length bytes) ≡ bytes) × AllByRecursion (IsMet memory) items
    cases true same f rest = (bytes_eq-true _ _ same, rest f)
    cases false same f rest = absurd cc
all_met memory i (Read node start n ∷ items) e = (tt, all_met memory i items e)
all_met memory i (Write node start bytes ∷ items) e = (tt, all_met memory i items e)

-- what a plan has where its compares hold
pub compares_met : (es : List Entry) (memory : List (List ℕ)) (items : List Item) → ComparesHold es memory items → AllByRecursion (IsMet memory) items
compares_met es memory items hold = all_met memory 0 items hold.met

-- a number that is compared: the whole place is as the list showed it last
pub compared_place : (es : List Entry) (memory : List (List ℕ)) (place : Place) (number bytes : List ℕ) → IsNumbered place → length number ≡ 8 → OnNumber (AgreesWith es memory) (Compare place.node place.start number) → ShowsLast es place number bytes
    → content_in (space_in memory place.node) place ≡ bytes
compared_place es memory place number bytes numbered long agrees shown =
    first_once (shown_in es) place number (content_in (space_in memory place.node) place) bytes (agrees place numbered (ap (λ (n : ℕ). let r : Place = record { node = place.node; start = place.start; length = n } in r) (sym long))) shown

-- a place with a number is the only one that begins there
same_start : (p q : Place) → IsNumbered p → IsNumbered q → p.node ≡ q.node → p.start ≡ q.start → p ≡ q
same_start p q (inl (a, few, is)) (inl (b, low, that)) node start =
    let at : 20480 + 1024 * a.slot ≡ 20480 + 1024 * b.slot = sym (ap (λ (x : Place). x.start) is) ∙ (start ∙ ap (λ (x : Place). x.start) that) in
    let slot : a.slot ≡ b.slot = omega (arith, at) in
    is ∙ (ap (λ (n : NodeNo). page_place (record { node = n; slot = a.slot })) (sym (ap (λ (x : Place). x.node) is) ∙ (node ∙ ap (λ (x : Place). x.node) that)) ∙ (ap (λ (k : ℕ). page_place (record { node = b.node; slot = k })) slot ∙ sym that))
same_start p q (inl (a, few, is)) (inr (m, w, low, that)) node start =
    let at : 20480 + 1024 * a.slot ≡ 64 + 64 * w = sym (ap (λ (x : Place). x.start) is) ∙ (start ∙ ap (λ (x : Place). x.start) that) in absurd (omega (arith, at, low))
same_start p q (inr (n, v, few, is)) (inl (b, low, that)) node start =
    let at : 64 + 64 * v ≡ 20480 + 1024 * b.slot = sym (ap (λ (x : Place). x.start) is) ∙ (start ∙ ap (λ (x : Place). x.start) that) in absurd (omega (arith, at, few))
same_start p q (inr (n, v, few, is)) (inr (m, w, low, that)) node start =
    let at : 64 + 64 * v ≡ 64 + 64 * w = sym (ap (λ (x : Place). x.start) is) ∙ (start ∙ ap (λ (x : Place). x.start) that) in
    let same : v ≡ w = omega (arith, at) in
    is ∙ (ap (λ (o : NodeNo). entry_place o v) (sym (ap (λ (x : Place). x.node) is) ∙ (node ∙ ap (λ (x : Place). x.node) that)) ∙ (ap (entry_place m) same ∙ sym that))

-- what the list shows last with its number, it shows with that number
pub shows_front : (es : List Entry) (place : Place) (number bytes : List ℕ) → IsNumbered place → ShowsLast es place number bytes → OnNumber (ShowsNumber es) (Compare place.node place.start number)
shows_front es place number bytes numbered last = λ other also front.
    let same : place ≡ other = same_start place other numbered also (sym (ap (λ (x : Place). x.node) front)) (sym (ap (λ (x : Place). x.start) front)) in
    let f = first_from (shown_in es) place number bytes last in
    subst (λ (p : Place). ShowsNumber es p number) same (bytes, (f.0, f.1, f.2.0), f.2.1)

-- no number begins where a count does
pub count_front : (es : List Entry) (node : NodeNo) (start : ℕ) (bytes : List ℕ) → start ≡ 16 → OnNumber (ShowsNumber es) (Compare node start bytes)
count_front es node start bytes is = λ place numbered front. absurd (by place numbered (ap (λ (x : Place). x.start) front ∙ is))
  where
    by : (place : Place) → IsNumbered place → place.start ≡ 16 → ⊥
    by place (inl (a, few, at)) e = let begins : 20480 + 1024 * a.slot ≡ 16 = sym (ap (λ (x : Place). x.start) at) ∙ e in absurd (omega (arith, begins))
    by place (inr (n, v, few, at)) e = let begins : 64 + 64 * v ≡ 16 = sym (ap (λ (x : Place). x.start) at) ∙ e in absurd (omega (arith, begins))

-- Fronts of places

mapped_from : {X Y : Type 0} (f : X → Y) (xs : List X) (y : Y) → Contains (map f xs) y → (x : X) × Contains xs x × (y ≡ f x)
mapped_from f [] y (k, in', is) = absurd (omega arith)
mapped_from f (x ∷ xs) y (zero, in', is) = (x, (0, omega arith, refl), sym is)
mapped_from f (x ∷ xs) y (suc k, in', is) = let r = mapped_from f xs y (k, omega arith, is) in (r.0, (suc r.1.0, (let low = r.1.1 in omega (arith, low)), r.1.2), r.2)

mapped_to : {X Y : Type 0} (f : X → Y) (xs : List X) (x : X) → Contains xs x → Contains (map f xs) (f x)
mapped_to f [] x (k, in', is) = absurd (omega arith)
mapped_to f (y ∷ xs) x (zero, in', is) = (0, omega arith, ap f is)
mapped_to f (y ∷ xs) x (suc k, in', is) = let r = mapped_to f xs x (k, omega arith, is) in (suc r.0, (let low = r.1 in omega (arith, low)), r.2)

-- of the places that are compared the fronts stand there
pub fronts_compared : (wholes : List Place) (C : Place → Type 0) → ((place : Place) → Contains wholes place ↔ C place) → (range : Place) → Contains (map front_place wholes) range ↔ ((place : Place) × C place × (range ≡ front_place place))
fronts_compared wholes C same range = (
  (λ has. let r = mapped_from front_place wholes range has in (r.0, (same r.0).0 r.1, r.2)),
  (λ r. subst (Contains (map front_place wholes)) (sym r.2) (mapped_to front_place wholes r.0 ((same r.0).1 r.1))),
)

-- a version of the kept catalog has its number in a store that continues it
pub still_named : (kept heads : List Head) (name : List ℕ) (v : ℕ) → ContinuesCatalog kept heads → number_named kept name ≡ Some v → number_named heads name ≡ Some v
still_named [] heads name v on e = absurd cc
still_named (k ∷ kept) [] name v on e = absurd on
still_named (k ∷ kept) (h ∷ heads) name v on e =
    ap (λ (n : List ℕ). if bytes_eq n name then Some 0 else option_map (λ n. n + 1) (number_named heads name)) on.0
    ∙ cases (bytes_eq k.name name) e (λ w f. still_named kept heads name w on.3 f)
  where
    below : (o : Option ℕ) → number_named kept name ≡ o → option_map (λ n. n + 1) o ≡ Some v → ((w : ℕ) → number_named kept name ≡ Some w → number_named heads name ≡ Some w) → option_map (λ n. n + 1) (number_named heads name) ≡ Some v
    below None f g rest = absurd cc
    below (Some w) f g rest = ap (option_map (λ n. n + 1)) (rest w f) ∙ g

    cases : (b : Bool) → (if b then Some 0 else option_map (λ n. n + 1) (number_named kept name)) ≡ Some v → ((w : ℕ) → number_named kept name ≡ Some w → number_named heads name ≡ Some w)
        → (if b then Some 0 else option_map (λ n. n + 1) (number_named heads name)) ≡ Some v
    cases true f rest = f
    cases false f rest = below (number_named kept name) refl f rest

-- Ranks of places

pub page_rank : (slot : ℕ) → place_rank (20480 + 1024 * slot) ≡ 0
page_rank slot =
    ap (λ b. if b then 2 else (if nat_lt (20480 + 1024 * slot) 20480 then 1 else 0)) (ne_eqb (20480 + 1024 * slot) 16 (λ e. absurd (omega arith)))
    ∙ ap (λ b. if b then 1 else 0) (le-ltb (20480 + 1024 * slot) 20480 (omega arith))

pub entry_rank : (v : ℕ) → v < 64 → place_rank (64 + 64 * v) ≡ 1
entry_rank v few =
    ap (λ b. if b then 2 else (if nat_lt (64 + 64 * v) 20480 then 1 else 0)) (ne_eqb (64 + 64 * v) 16 (λ e. absurd (omega arith)))
    ∙ ap (λ b. if b then 1 else 0) (lt-ltb (64 + 64 * v) 20480 (omega arith))

pub element_at : {X : Type 0} (xs : List X) (i : ℕ) → i < length xs → (x : X) × (slice_get xs i ≡ Some x)
element_at [] i in' = absurd (omega arith)
element_at (x ∷ xs) zero in' = (x, refl)
element_at (x ∷ xs) (suc i) in' = element_at xs i (omega arith)

pub same_number : (a b : ℕ) → Some a ≡ Some b → a ≡ b
same_number a b e = cc

pub number_within : (hs : List Head) (name : List ℕ) (v : ℕ) → number_named hs name ≡ Some v
    → v < length hs
number_within [] name v e = absurd cc
number_within (h ∷ hs) name v e = by (bytes_eq h.name name) e (number_within hs name)
  where
    below : (o : Option ℕ) → number_named hs name ≡ o → option_map (λ n. n + 1) o ≡ Some v
        → ((w : ℕ) → number_named hs name ≡ Some w → w < length hs) → v < suc (length hs)
    below None f g rest = absurd cc
    below (Some w) f g rest = let less = rest w f in let is : w + 1 ≡ v = cc in omega arith

    by : (b : Bool)
        → (if b then Some 0 else option_map (λ n. n + 1) (number_named hs name)) ≡ Some v
        → ((w : ℕ) → number_named hs name ≡ Some w → w < length hs) → v < suc (length hs)
    by true f rest = let is : 0 ≡ v = cc in omega arith
    by false f rest = below (number_named hs name) refl f rest
