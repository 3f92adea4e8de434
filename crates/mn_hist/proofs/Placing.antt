-- Entries in the slots of their places.
use Rattle.std.proofs.Common.{◌≡◌, ℕ, zero, suc, ◌+◌, ◌<◌, ◌≤◌, ◌⊎◌, Bool, true, false, Option, Some, None, List, [], ◌∷◌, ◌++◌, length, map, refl, sym, ap, ◌∙◌, subst, inl, inr, arith, length-append, if◌then◌else◌}
use Rattle.std.specs.Prelude.{slice_get, slice_set, get_or, is_none, IsSome, ◌&&◌}
use Rattle.std.specs.List.{AllByRecursion}
use Rattle.mn_runs.specs.Log.{nobody}
use Rattle.std.proofs.lemmas.Option.{same_Some}
use Rattle.mn_page.proofs.Grid.{all_at_place, all_split}
use Rattle.mn_actors.specs.declared.actor.Actor.{Actor}
use Rattle.mn_actors.specs.declared.actor.Actor.TheVariants.{Node, Client}
use Rattle.mn_actors.specs.Lines.{Line, is_client, is_node, stands_in}
use Rattle.mn_actors.specs.Log.{entries_from, entries_of as entries_of_actor, IsManned, IsPlace, StandsAt}
use Rattle.mn_base.specs.declared.ids.ClientNo.{ClientNo}
use Rattle.mn_base.specs.declared.ids.NodeNo.{NodeNo}
use Rattle.mn_runs.specs.declared.entry.Entry.{Entry}
use Rattle.mn_runs.specs.Lists.{ClientState}
use Rattle.mn_runs.specs.Protocol.{entries_of}
use Rattle.mn_runs.proofs.Same.{client_same-refl}
use Rattle.mn_cell.specs.Runs.{placed_from}
use Rattle.mn_cell.specs.Station.{HasCaller}
use Rattle.mn_cell.proofs.Running.{reverse_more}
use Rattle.mn_hist.specs.Merging.{AreOneLog, HaveCallers, Hold, put_at, put_list, put_lists}

-- Loops

-- an empty slot more changes nothing
pub put_empty : (at : ℕ) (e : Entry) (slots : List (Option Entry)) → length slots ≤ at → put_at at e (slots ++ None ∷ []) ≡ put_at at e slots
put_empty zero e [] le = refl
put_empty zero e (s ∷ slots) le = absurd (omega (arith, le))
put_empty (suc at) e [] le = refl
put_empty (suc at) e (s ∷ slots) le = ap (λ (l : List (Option Entry)). s ∷ l) (put_empty at e slots (omega (arith, le)))

-- there are as many slots
pub as_long : (p : ℕ) (slots : List (ℕ × Entry)) (filled : List (Option Entry)) → Hold p slots filled → length slots ≡ length filled
as_long p [] [] hold = refl
as_long p [] (f ∷ filled) hold = absurd hold
as_long p (x ∷ slots) [] hold = absurd hold
as_long p (x ∷ slots) (None ∷ filled) hold = ap suc (as_long (p + 1) slots filled hold)
as_long p (x ∷ slots) (Some e ∷ filled) hold = ap suc (as_long (p + 1) slots filled hold.1)

-- an empty slot more
pub hold_empty : (p : ℕ) (slots : List (ℕ × Entry)) (filled : List (Option Entry)) (x : ℕ × Entry) → Hold p slots filled → Hold p (slots ++ x ∷ []) (filled ++ None ∷ [])
hold_empty p [] [] x hold = tt
hold_empty p [] (f ∷ filled) x hold = absurd hold
hold_empty p (y ∷ slots) [] x hold = absurd hold
hold_empty p (y ∷ slots) (None ∷ filled) x hold = hold_empty (p + 1) slots filled x hold
hold_empty p (y ∷ slots) (Some e ∷ filled) x hold = (hold.0, hold_empty (p + 1) slots filled x hold.1)

no_more : (p : ℕ) → p + 0 ≡ p
no_more p = omega arith

-- an entry pushed into the slot of its place
pub hold_more : (p at : ℕ) (x : ℕ × Entry) (slots : List (ℕ × Entry)) (filled : List (Option Entry)) → Hold p slots filled → length slots ≡ at → x.0 ≡ p + at
    → Hold p (slots ++ x ∷ []) (put_at at x.1 filled)
hold_more p zero x [] [] hold long is = (ap (λ (n : ℕ). (n, x.1)) (is ∙ no_more p), tt)
hold_more p (suc at) x [] [] hold long is = absurd (omega (arith, long))
hold_more p at x [] (f ∷ filled) hold long is = absurd hold
hold_more p at x (y ∷ slots) [] hold long is = absurd hold
hold_more p zero x (y ∷ slots) (f ∷ filled) hold long is = absurd (omega (arith, long))
hold_more p (suc at) x (y ∷ slots) (None ∷ filled) hold long is = hold_more (p + 1) at x slots filled hold (omega (arith, long)) (omega (arith, is))
hold_more p (suc at) x (y ∷ slots) (Some e ∷ filled) hold long is = (hold.0, hold_more (p + 1) at x slots filled hold.1 (omega (arith, long)) (omega (arith, is)))

-- an entry in the slot of its place
pub hold_put : (p at : ℕ) (x : ℕ × Entry) (slots : List (ℕ × Entry)) (filled : List (Option Entry)) → Hold p slots filled → at < length slots → x.0 ≡ p + at
    → Hold p (slice_set slots at x) (put_at at x.1 filled)
hold_put p at x [] filled hold lt is = absurd (omega (arith, lt))
hold_put p at x (y ∷ slots) [] hold lt is = absurd hold
hold_put p zero x (y ∷ slots) (None ∷ filled) hold lt is = (ap (λ (n : ℕ). (n, x.1)) (is ∙ no_more p), hold)
hold_put p zero x (y ∷ slots) (Some f ∷ filled) hold lt is = (ap (λ (n : ℕ). (n, x.1)) (is ∙ no_more p), hold.1)
hold_put p (suc at) x (y ∷ slots) (None ∷ filled) hold lt is = hold_put (p + 1) at x slots filled hold (omega (arith, lt)) (omega (arith, is))
hold_put p (suc at) x (y ∷ slots) (Some e ∷ filled) hold lt is = (hold.0, hold_put (p + 1) at x slots filled hold.1 (omega (arith, lt)) (omega (arith, is)))

-- no node and no client has it
abbrev pub is_nobodys : Entry → Bool
is_nobodys e = is_none e.node && is_none e.client

-- What the slots hold

-- each slot that is filled has the entry of its line
abbrev pub SlotsAreOfLog : List (Line Entry) → List (Option Entry) → Type 0
SlotsAreOfLog log [] = Unit {0}
SlotsAreOfLog [] (s ∷ slots) = ⊥
SlotsAreOfLog (x ∷ log) (None ∷ slots) = SlotsAreOfLog log slots
SlotsAreOfLog (x ∷ log) (Some e ∷ slots) = (e ≡ x.entry) × SlotsAreOfLog log slots

-- the line of this place has this entry
abbrev pub IsLineAt : List (Line Entry) → ℕ → Entry → Type 0
IsLineAt log p e = (x : Line Entry) × (slice_get log p ≡ Some x) × (e ≡ x.entry)

put_under : (log : List (Line Entry)) (p : ℕ) (e : Entry) (slots : List (Option Entry)) → IsLineAt log p e → SlotsAreOfLog log slots → SlotsAreOfLog log (put_at p e slots)
put_under [] p e slots is under = let no = is.1 in absurd (cc)
put_under (x ∷ log) zero e [] is under = (is.2 ∙ ap (λ (y : Line Entry). y.entry) (sym (same_Some _ _ is.1)), under)
put_under (x ∷ log) zero e (None ∷ slots) is under = (is.2 ∙ ap (λ (y : Line Entry). y.entry) (sym (same_Some _ _ is.1)), under)
put_under (x ∷ log) zero e (Some f ∷ slots) is under = (is.2 ∙ ap (λ (y : Line Entry). y.entry) (sym (same_Some _ _ is.1)), under.1)
put_under (x ∷ log) (suc p) e [] is under = put_under log p e [] is under
put_under (x ∷ log) (suc p) e (None ∷ slots) is under = put_under log p e slots is under
put_under (x ∷ log) (suc p) e (Some f ∷ slots) is under = (under.0, put_under log p e slots is under.1)

-- each entry of the list is a line's
abbrev pub AreLines : List (Line Entry) → List (ℕ × Entry) → Type 0
AreLines log [] = Unit {0}
AreLines log (x ∷ l) = IsLineAt log x.0 x.1 × AreLines log l

list_under : (log : List (Line Entry)) (l : List (ℕ × Entry)) (slots : List (Option Entry)) → AreLines log l → SlotsAreOfLog log slots → SlotsAreOfLog log (put_list l slots)
list_under log [] slots are under = under
list_under log (x ∷ l) slots are under = list_under log l (put_at x.0 x.1 slots) are.1 (put_under log x.0 x.1 slots are.0 under)

abbrev pub AreListsOf : List (Line Entry) → List (List (ℕ × Entry)) → Type 0
AreListsOf log [] = Unit {0}
AreListsOf log (l ∷ ls) = AreLines log l × AreListsOf log ls

lists_under : (log : List (Line Entry)) (ls : List (List (ℕ × Entry))) (slots : List (Option Entry)) → AreListsOf log ls → SlotsAreOfLog log slots → SlotsAreOfLog log (put_lists ls slots)
lists_under log [] slots are under = under
lists_under log (l ∷ ls) slots are under = lists_under log ls (put_list l slots) are.1 (list_under log l slots are.0 under)

-- Which slots are filled

abbrev pub is_full : ℕ → List (Option Entry) → Bool
is_full p [] = false
is_full zero (None ∷ slots) = false
is_full zero (Some e ∷ slots) = true
is_full (suc p) (s ∷ slots) = is_full p slots

put_full : (p : ℕ) (e : Entry) (slots : List (Option Entry)) → is_full p (put_at p e slots) ≡ true
put_full zero e [] = refl
put_full zero e (None ∷ slots) = refl
put_full zero e (Some f ∷ slots) = refl
put_full (suc p) e [] = put_full p e []
put_full (suc p) e (s ∷ slots) = put_full p e slots

put_keeps : (q p : ℕ) (e : Entry) (slots : List (Option Entry)) → is_full q slots ≡ true → is_full q (put_at p e slots) ≡ true
put_keeps q p e [] is = absurd (cc)
put_keeps zero zero e (None ∷ slots) is = refl
put_keeps zero zero e (Some f ∷ slots) is = refl
put_keeps zero (suc p) e (None ∷ slots) is = absurd (cc)
put_keeps zero (suc p) e (Some f ∷ slots) is = refl
put_keeps (suc q) zero e (None ∷ slots) is = is
put_keeps (suc q) zero e (Some f ∷ slots) is = is
put_keeps (suc q) (suc p) e (s ∷ slots) is = put_keeps q p e slots is

list_keeps : (q : ℕ) (l : List (ℕ × Entry)) (slots : List (Option Entry)) → is_full q slots ≡ true → is_full q (put_list l slots) ≡ true
list_keeps q [] slots is = is
list_keeps q (x ∷ l) slots is = list_keeps q l (put_at x.0 x.1 slots) (put_keeps q x.0 x.1 slots is)

lists_keep : (q : ℕ) (ls : List (List (ℕ × Entry))) (slots : List (Option Entry)) → is_full q slots ≡ true → is_full q (put_lists ls slots) ≡ true
lists_keep q [] slots is = is
lists_keep q (l ∷ ls) slots is = lists_keep q ls (put_list l slots) (list_keeps q l slots is)

-- an entry of this place is in the list
abbrev pub ListHasPlace : ℕ → List (ℕ × Entry) → Type 0
ListHasPlace q [] = ⊥
ListHasPlace q (x ∷ l) = (x.0 ≡ q) ⊎ ListHasPlace q l

list_fills : (q : ℕ) (l : List (ℕ × Entry)) (slots : List (Option Entry)) → ListHasPlace q l → is_full q (put_list l slots) ≡ true
list_fills q [] slots has = absurd has
list_fills q (x ∷ l) slots (inl is) = list_keeps q l (put_at x.0 x.1 slots) (subst (λ (p : ℕ). is_full p (put_at x.0 x.1 slots) ≡ true) is (put_full x.0 x.1 slots))
list_fills q (x ∷ l) slots (inr has) = list_fills q l (put_at x.0 x.1 slots) has

lists_fill : (q : ℕ) (ls : List (List (ℕ × Entry))) (slots : List (Option Entry)) (i : ℕ) (l : List (ℕ × Entry)) → slice_get ls i ≡ Some l → ListHasPlace q l → is_full q (put_lists ls slots) ≡ true
lists_fill q [] slots i l is has = absurd (cc)
lists_fill q (m ∷ ls) slots zero l is has = lists_keep q ls (put_list m slots) (list_fills q m slots (subst (ListHasPlace q) (sym (same_Some _ _ is)) has))
lists_fill q (m ∷ ls) slots (suc i) l is has = lists_fill q ls (put_list m slots) i l is has

-- The lists of a log

get_middle : (front rest : List (Line Entry)) (x : Line Entry) → slice_get (front ++ x ∷ rest) (length front) ≡ Some x
get_middle [] rest x = refl
get_middle (y ∷ front) rest x = get_middle front rest x

append_next : (front rest : List (Line Entry)) (x : Line Entry) → (front ++ x ∷ []) ++ rest ≡ front ++ x ∷ rest
append_next [] rest x = refl
append_next (y ∷ front) rest x = ap (λ (l : List (Line Entry)). y ∷ l) (append_next front rest x)

with_line : (b : Bool) (log : List (Line Entry)) (x : ℕ × Entry) (l : List (ℕ × Entry)) → IsLineAt log x.0 x.1 → AreLines log l → AreLines log (if b then x ∷ l else l)
with_line true log x l is are = (is, are)
with_line false log x l is are = are

entries_lines : (a : Actor) (front rest : List (Line Entry)) → AreLines (front ++ rest) (entries_from (length front) a rest)
entries_lines a front [] = tt
entries_lines a front (x ∷ rest) =
    let next : length (front ++ x ∷ []) ≡ length front + 1 = omega (arith, length-append front (x ∷ [])) in
    let are = subst (λ (t : List (Line Entry) × ℕ). AreLines t.0 (entries_from t.1 a rest)) (λ i. (append_next front rest x i, next i)) (entries_lines a (front ++ x ∷ []) rest) in
    with_line (stands_in a x) (front ++ x ∷ rest) (length front, x.entry) (entries_from (length front + 1) a rest) (x, get_middle front rest x, refl) are

still_has : (b : Bool) (q : ℕ) (x : ℕ × Entry) (l : List (ℕ × Entry)) → ListHasPlace q l → ListHasPlace q (if b then x ∷ l else l)
still_has true q x l has = inr has
still_has false q x l has = has

has_entry : (a : Actor) (k : ℕ) (log : List (Line Entry)) (i : ℕ) (x : Line Entry) → slice_get log i ≡ Some x → stands_in a x ≡ true → ListHasPlace (k + i) (entries_from k a log)
has_entry a k [] i x is stands = absurd (cc)
has_entry a k (y ∷ log) zero x is stands =
    let here : stands_in a y ≡ true = ap (λ (z : Line Entry). stands_in a z) (same_Some _ _ is) ∙ stands in
    let place : k ≡ k + 0 = omega arith in
    rw here (inl place)
has_entry a k (y ∷ log) (suc i) x is stands =
    let place : k + 1 + i ≡ k + suc i = omega arith in
    still_has (stands_in a y) (k + suc i) (k, y.entry) (entries_from (k + 1) a log) (subst (λ (q : ℕ). ListHasPlace q (entries_from (k + 1) a log)) place (has_entry a (k + 1) log i x is stands))

lists_are : (log : List (Line Entry)) (ls : List (List (ℕ × Entry))) (actor : ℕ → Actor) → ((i : ℕ) → i < length ls → slice_get ls i ≡ Some (entries_from 0 (actor i) log)) → AreListsOf log ls
lists_are log [] actor each = tt
lists_are log (l ∷ ls) actor each =
    (subst (AreLines log) (sym (same_Some _ _ (each 0 (omega arith)))) (entries_lines (actor 0) [] log), lists_are log ls (λ i. actor (suc i)) (λ i lt. each (suc i) (omega (arith, lt))))

-- All slots filled with the entries of the lines

whole : (p : ℕ) (log : List (Line Entry)) (slots : List (ℕ × Entry)) (filled : List (Option Entry)) → SlotsAreOfLog log filled → ((q : ℕ) → q < length log → is_full q filled ≡ true) → Hold p slots filled → slots ≡ placed_from p log
whole p [] [] [] under full hold = refl
whole p [] (x ∷ slots) [] under full hold = absurd hold
whole p [] slots (f ∷ filled) under full hold = absurd under
whole p (x ∷ log) slots [] under full hold = let no = full 0 (omega arith) in absurd (cc)
whole p (x ∷ log) slots (None ∷ filled) under full hold = let no = full 0 (omega arith) in absurd (cc)
whole p (x ∷ log) [] (Some e ∷ filled) under full hold = absurd hold
whole p (x ∷ log) (y ∷ slots) (Some e ∷ filled) under full hold =
    ap (λ (z : ℕ × Entry). z ∷ slots) (hold.0 ∙ ap (λ (f : Entry). (p, f)) under.0)
    ∙ ap (λ (l : List (ℕ × Entry)). (p, x.entry) ∷ l) (whole (p + 1) log slots filled under.1 (λ q lt. full (suc q) (omega (arith, lt))) hold.1)

-- the entry of a place
placed_at : (p : ℕ) (log : List (Line Entry)) (q : ℕ) (x : Line Entry) → slice_get log q ≡ Some x → (get_or (placed_from p log) q nobody).1 ≡ x.entry
placed_at p [] q x is = absurd cc
placed_at p (y ∷ log) zero x is = ap (λ (z : Line Entry). z.entry) (same_Some _ _ is)
placed_at p (y ∷ log) (suc q) x is = placed_at (p + 1) log q x is

has_client : (o : Option ClientNo) (c : ClientNo) → is_client o c ≡ true → is_none o ≡ false
has_client None c is = absurd cc
has_client (Some d) c is = refl

has_node : (o : Option NodeNo) (n : NodeNo) → is_node o n ≡ true → is_none o ≡ false
has_node None n is = absurd cc
has_node (Some m) n is = refl

and_false : (b : Bool) → (b && false) ≡ false
and_false true = refl
and_false false = refl

pub as_placed : (p : ℕ) (log : List (Line Entry)) → length (placed_from p log) ≡ length log
as_placed p [] = refl
as_placed p (x ∷ log) = ap suc (as_placed (p + 1) log)

pub as_many : (clients : List ClientState) → length (map (λ (l : ClientState). l.entries) clients) ≡ length clients
as_many [] = refl
as_many (c ∷ clients) = ap suc (as_many clients)

-- an entry of a list, of which each has a caller
has_caller : (l : List (ℕ × Entry)) (k : ℕ) (x : ℕ × Entry) → slice_get l k ≡ Some x → AllByRecursion HasCaller (entries_of l) → HasCaller x.1
has_caller l k x is all = all_at_place (λ (y : ℕ × Entry). HasCaller y.1) l k x (in_order l all) is
  where
    in_order : (l : List (ℕ × Entry)) → AllByRecursion HasCaller (entries_of l) → AllByRecursion (λ y. HasCaller y.1) l
    in_order [] all = tt
    in_order (y ∷ l) all =
        let both = subst (AllByRecursion HasCaller) (reverse_more y.1 (map (λ (z : ℕ × Entry). z.1) l)) all in
        let parts = all_split HasCaller (entries_of l) (y.1 ∷ []) both in (parts.1.0, in_order l parts.0)

zero_more : (q : ℕ) → 0 + q ≡ q
zero_more q = omega arith

module _ (nodes : List (List (ℕ × Entry))) (clients : List ClientState) (clock : ℕ) (one : AreOneLog nodes clients clock) where
  abbrev entries : List (List (ℕ × Entry))
  entries = map (λ (l : ClientState). l.entries) clients

  all_under : SlotsAreOfLog one.log (put_lists entries [])
  all_under = lists_under one.log entries [] (lists_are one.log entries (λ c. Client (record { 0 = c })) (λ c lt. one.lists (Client (record { 0 = c })) (omega (arith, lt, as_many clients)))) tt

  -- an entry that a client has is put from the client's list
  full_client : (c : ClientNo) (q : ℕ) (x : Line Entry) → slice_get one.log q ≡ Some x → stands_in (Client c) x ≡ true → c.0 < length clients → is_full q (put_lists entries []) ≡ true
  full_client c q x is stands on =
      lists_fill q entries [] c.0 (entries_from 0 (Client c) one.log) (one.lists (Client c) on) (subst (λ (p : ℕ). ListHasPlace p (entries_from 0 (Client c) one.log)) (zero_more q) (has_entry (Client c) 0 one.log q x is stands))

  -- one that only a node has would have a caller
  none_alone : (n : NodeNo) (q : ℕ) (x : Line Entry) → HaveCallers nodes → StandsAt q x.entry (entries_of_actor (Node n) one.log) → x.entry.client ≡ None → n.0 < length nodes → ⊥
  none_alone n q x callers at none on =
      let some : IsSome {T = ClientNo} None = subst (λ (o : Option ClientNo). IsSome o) none (has_caller (entries_of_actor (Node n) one.log) at.0 (q, x.entry) at.1 (all_at_place (λ (l : List (ℕ × Entry)). AllByRecursion HasCaller (entries_of l)) nodes n.0 (entries_of_actor (Node n) one.log) callers (one.lists (Node n) on))) in
      absurd (cc)

  full_line : (q : ℕ) (x : Line Entry) → HaveCallers nodes → slice_get one.log q ≡ Some x → IsManned (length nodes) (length clients) x → IsPlace (λ a. entries_of_actor a one.log) q x → x.entry.client ≡ x.client → (o : Option ClientNo) → x.client ≡ o → is_full q (put_lists entries []) ≡ true
  full_line q x callers is manned place same (Some c) by =
      let stands : stands_in (Client c) x ≡ true = ap (λ (o : Option ClientNo). is_client o c) by ∙ client_same-refl c in
      full_client c q x is stands (manned.on_board (Client c) stands)
  full_line q x callers is manned place same None by = at manned.some_actor.0 manned.some_actor.1
    where
      at : (a : Actor) → stands_in a x ≡ true → is_full q (put_lists entries []) ≡ true
      at (Node n) stands = absurd (none_alone n q x callers (place.stands (Node n) stands) (same ∙ by) (manned.on_board (Node n) stands))
      at (Client c) stands = let no : false ≡ true = sym (ap (λ (o : Option ClientNo). is_client o c) by) ∙ stands in absurd (cc)

  all_full : HaveCallers nodes → (q : ℕ) → q < length one.log → is_full q (put_lists entries []) ≡ true
  all_full callers q lt =
      let at = one.once q (omega (arith, lt, one.clock_is)) in
      full_line q at.0 callers at.1 (one.manned q at.0 at.1) at.2 (one.legal_then q at.0 at.1).1 at.0.client refl

  -- the clients' lists of one log, put together, are that log
  pub merged_whole : HaveCallers nodes → (slots : List (ℕ × Entry)) → Hold 0 slots (put_lists entries []) → slots ≡ placed_from 0 one.log
  merged_whole callers slots hold = whole 0 one.log slots (put_lists entries []) all_under (all_full callers) hold

  manned_by : (x : Line Entry) → x.entry.node ≡ x.node → x.entry.client ≡ x.client → (a : Actor) → stands_in a x ≡ true → is_nobodys x.entry ≡ false
  manned_by x node client (Node n) stands = ap (λ (b : Bool). b && is_none x.entry.client) (ap is_none node ∙ has_node x.node n stands)
  manned_by x node client (Client c) stands = ap (λ (b : Bool). is_none x.entry.node && b) (ap is_none client ∙ has_client x.client c stands) ∙ and_false (is_none x.entry.node)

  -- some actor has each of its entries
  pub none_nobodys : (q : ℕ) → q < length one.log → is_nobodys (get_or (placed_from 0 one.log) q nobody).1 ≡ false
  none_nobodys q lt =
      let at = one.once q (omega (arith, lt, one.clock_is)) in
      let legal = one.legal_then q at.0 at.1 in
      let manned = one.manned q at.0 at.1 in
      ap is_nobodys (placed_at 0 one.log q at.0 at.1) ∙ manned_by at.0 legal.0 legal.1 manned.some_actor.0 manned.some_actor.1
