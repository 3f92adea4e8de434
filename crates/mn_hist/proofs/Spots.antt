-- Spots of entries in the order of their places.
use Rattle.std.proofs.Common.{◌≡◌, ℕ, zero, suc, ◌+◌, ◌-◌, ◌<◌, ◌≤◌, Bool, true, false, List, [], ◌∷◌, ◌++◌, Vec, Global, length, map, drop, get_or, nat_eq, refl, sym, ap, ◌∙◌, subst, arith, if◌then◌else◌}
use Rattle.std.specs.Prelude.{slice_set}
use Rattle.mn_runs.specs.declared.entry.Entry.{Entry}
use Rattle.mn_runs.specs.declared.log.Spot.{Spot}
use Rattle.mn_runs.specs.Log.{AreSpots, entry_at, log_of, nobody}
use Rattle.mn_runs.proofs.Logs.{at_place, map_at, map_long, map_more}
use Rattle.mn_hist.proofs.Placing.{is_nobodys}

-- Lists

map_set : {A B : Type 0} (f : A → B) (xs : List A) (i : ℕ) (x : A) → map f (slice_set xs i x) ≡ slice_set (map f xs) i (f x)
map_set f [] i x = refl
map_set f (y ∷ xs) zero x = refl
map_set f (y ∷ xs) (suc i) x = ap (λ (l : List _). f y ∷ l) (map_set f xs i x)

get_any : {A : Type 0} (xs : List A) (i : ℕ) (a b : A) → i < length xs → get_or xs i a ≡ get_or xs i b
get_any [] i a b lt = absurd (omega (arith, lt))
get_any (x ∷ xs) zero a b lt = refl
get_any (x ∷ xs) (suc i) a b lt = get_any xs i a b (omega (arith, lt))

-- what stands at a place, and what behind it
pub drop_at : {A : Type 0} (xs : List A) (i : ℕ) (none : A) → i < length xs → drop i xs ≡ get_or xs i none ∷ drop (i + 1) xs
drop_at xs i none lt = subst (λ (n : ℕ). drop i xs ≡ get_or xs i none ∷ drop n xs) (next i) (from xs i none lt)
  where
    next : (i : ℕ) → suc i ≡ i + 1
    next i = omega arith

    from : {A : Type 0} (xs : List A) (i : ℕ) (none : A) → i < length xs → drop i xs ≡ get_or xs i none ∷ drop (suc i) xs
    from [] i none lt = absurd (omega (arith, lt))
    from (x ∷ xs) zero none lt = refl
    from (x ∷ xs) (suc i) none lt = from xs i none (omega (arith, lt))

-- The log of an order

pub log_long : (lists : List (List (ℕ × Entry))) (order : List Spot) → length (log_of lists order) ≡ length order
log_long lists order = map_long (entry_at lists) order

pub log_more : (lists : List (List (ℕ × Entry))) (order : List Spot) (s : Spot) → log_of lists (order ++ s ∷ []) ≡ log_of lists order ++ entry_at lists s ∷ []
log_more lists order s = map_more (entry_at lists) order s

pub log_set : (lists : List (List (ℕ × Entry))) (order : List Spot) (i : ℕ) (s : Spot) → log_of lists (slice_set order i s) ≡ slice_set (log_of lists order) i (entry_at lists s)
log_set lists order i s = map_set (entry_at lists) order i s

pub log_at : (lists : List (List (ℕ × Entry))) (order : List Spot) (i : ℕ) (s : Spot) → i < length order → s ≡ get_or order i s → entry_at lists s ≡ get_or (log_of lists order) i (entry_at lists s)
log_at lists order i s lt is = sym (map_at (entry_at lists) order i s (entry_at lists s) lt is)

-- The entry of a spot

pub lists_long : (vecs : List (Vec (ℕ × Entry) Global)) → length (map (λ (list : Vec (ℕ × Entry) Global). list.items) vecs) ≡ length vecs
lists_long vecs = map_long (λ (list : Vec (ℕ × Entry) Global). list.items) vecs

pub list_at : (vecs : List (Vec (ℕ × Entry) Global)) (n : ℕ) (v : Vec (ℕ × Entry) Global) → n < length vecs → v ≡ get_or vecs n v → get_or (map (λ (list : Vec (ℕ × Entry) Global). list.items) vecs) n [] ≡ v.items
list_at vecs n v lt is = map_at (λ (list : Vec (ℕ × Entry) Global). list.items) vecs n v [] lt is

-- an entry of a list stands at its spot
pub spot_has : (vecs : List (Vec (ℕ × Entry) Global)) (n i : ℕ) (v : Vec (ℕ × Entry) Global) (e : ℕ × Entry) (s : Spot) → s ≡ record { list = n; place = i + 1 } → n < length vecs → v ≡ get_or vecs n v → i < length v.items → e ≡ get_or v.items i e
    → entry_at (map (λ (list : Vec (ℕ × Entry) Global). list.items) vecs) s ≡ e
spot_has vecs n i v e s so lt is below at =
    let lists : List (List (ℕ × Entry)) = map (λ (list : Vec (ℕ × Entry) Global). list.items) vecs in
    let list : get_or lists n [] ≡ v.items = list_at vecs n v lt is in
    ap (entry_at lists) so
    ∙ at_place (get_or lists n []) (i + 1) i refl
    ∙ ap (λ (l : List (ℕ × Entry)). get_or l i nobody) list
    ∙ get_any v.items i nobody e below
    ∙ sym at

-- where some actor's entry stands is a spot
spot_there : (l : List (ℕ × Entry)) (n : ℕ) (b : Bool) → nat_eq n 0 ≡ b → is_nobodys (if b then nobody else get_or l (n - 1) nobody).1 ≡ false → (1 ≤ n) × (n ≤ length l)
spot_there l n true none some = absurd cc
spot_there l n false none some =
    let above : 1 ≤ n = grind (arith, none) in
    let inside : n - 1 < length l = within l (n - 1) some in
    (above, omega (arith, above, inside))
  where
    within : (l : List (ℕ × Entry)) (m : ℕ) → is_nobodys (get_or l m nobody).1 ≡ false → m < length l
    within [] m some = absurd cc
    within (x ∷ l) zero some = omega arith
    within (x ∷ l) (suc m) some = let more = within l m some in omega (arith, more)

pub spots_there : (lists : List (List (ℕ × Entry))) (order : List Spot) → ((n : ℕ) → n < length order → is_nobodys (get_or (log_of lists order) n nobody).1 ≡ false) → AreSpots lists order
spots_there lists order some n s lt is =
    let at : get_or (log_of lists order) n nobody ≡ entry_at lists s = map_at (entry_at lists) order n s nobody lt is in
    spot_there (get_or lists s.list []) s.place (nat_eq s.place 0) refl (ap (λ (e : ℕ × Entry). is_nobodys e.1) (sym at) ∙ some n lt)
