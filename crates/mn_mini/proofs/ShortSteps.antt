-- What the program that shortens a list keeps, step by step.
use Rattle.std.proofs.Common.{◌≡◌, ◌≤◌, ◌<◌, ◌+◌, ◌-◌, ℕ, suc, Bool, true, false, ◌&&◌, ◌||◌, nat_eq, cond, List, [], ◌∷◌, ◌++◌, length, map, reverse, drop, take, Option, Some, None, refl, ap, ap₂, sym, ◌∙◌, subst, arith, append_assoc, append-nil, if◌then◌else◌}
use Rattle.std.proofs.lemmas.Bool.Decides.{nat_tests}
use Rattle.std.specs.List.{list_any}
use Rattle.std.proofs.lemmas.List.{map-append}
use Rattle.std.specs.HashMap.{get}
use Rattle.std.specs.Map.{lookup}
use Rattle.std.specs.HashSet.{HashSet, contains}
use Rattle.mn_base.specs.Ids.{tid_same}
use Rattle.mn_base.specs.declared.ids.NodeNo.{NodeNo}
use Rattle.mn_base.specs.declared.ids.Tid.{Tid}
use Rattle.mn_mini.specs.declared.part.PartItem.{PartItem}
use Rattle.mn_mini.specs.declared.part.PartItem.TheVariants.{Write}
use Rattle.mn_mini.specs.declared.record.Record.{Record}
use Rattle.mn_mini.specs.declared.record.Record.TheVariants.{Voted, Executed, Decided, Forced}
use Rattle.mn_mini.specs.declared.shortening.RangeKey.{RangeKey}
use Rattle.mn_mini.specs.declared.shortening.IdKey.{IdKey}
use Rattle.mn_mini.specs.declared.shortening.Kept.{Kept}
use Rattle.mn_mini.specs.declared.shortening.Ended.{Ended}
use Rattle.mn_mini.specs.declared.shortening.Ended.TheVariants as End
use Rattle.mn_mini.specs.declared.shortening.Newer.{Newer}
use Rattle.mn_mini.specs.declared.shortening.Held.{Held}
use Rattle.mn_mini.specs.declared.shortening.Parts.{Parts}
use Rattle.std.specs.Option.{option_map_or}
use Rattle.mn_mini.specs.Mini.{range_of}
use Rattle.mn_mini.specs.Node.{HeldPart, held_parts, without_tid}
use Rattle.mn_mini.specs.Short.{writes_just, remaining, first_read, Fate, Open, Dropped, Applied, fate_before, with_fate, or_first_read, kept_part, held_items, executed_over, shortened_below, all_open, shortened, short}
use Rattle.mn_mini.specs.Shorten.{range_key, ranges_same, id_key, keys_same, OverTells, held_of, joined, remaining_each, parts_of, held_at, HeldTells, queue_of, FateTells, NewerTells, Goes}
use Rattle.mn_mini.proofs.Short.{tid_same-is, tid_same-itself}

-- Ranges

pub cond_or : (a b : Bool) → cond a true b ≡ (a || b)
cond_or true b = refl
cond_or false b = refl

-- one more write item
pub over_written : {S : Type 0} (old new : HashSet RangeKey S) (start : ℕ) (bytes : List ℕ) (items : List PartItem) → OverTells old items
    → ((q : RangeKey) → contains ranges_same new q ≡ cond (ranges_same (record { start = start; length = length bytes }) q) true (contains ranges_same old q)) → OverTells new (Write start bytes ∷ items)
over_written old new start bytes items tells updates range =
    updates (range_key range) ∙ cond_or (ranges_same (record { start = start; length = length bytes }) (range_key range)) (contains ranges_same old (range_key range))
    ∙ ap (λ (b : Bool). (nat_eq start range.start && nat_eq (length bytes) range.length) || b) (tells range)

-- what remains where an item comes before the others
pub remains_written : (start : ℕ) (bytes : List ℕ) (part over : List PartItem) → list_any (writes_just (range_of (Write start bytes))) (part ++ over) ≡ false → remaining (Write start bytes ∷ part) over ≡ Write start bytes ∷ remaining part over
remains_written start bytes part over e = ap (λ (b : Bool). if b then remaining part over else Write start bytes ∷ remaining part over) e

pub goes_written : (start : ℕ) (bytes : List ℕ) (part over : List PartItem) → list_any (writes_just (range_of (Write start bytes))) (part ++ over) ≡ true → remaining (Write start bytes ∷ part) over ≡ remaining part over
goes_written start bytes part over e = ap (λ (b : Bool). if b then remaining part over else Write start bytes ∷ remaining part over) e

-- Parts of an id

pub joined_last : (parts : List (List PartItem)) (part over : List PartItem) → joined (parts ++ part ∷ []) ++ over ≡ joined parts ++ (part ++ over)
joined_last [] part over = ap (λ (l : List PartItem). l ++ over) (append-nil part)
joined_last (p ∷ parts) part over = append_assoc p (joined (parts ++ part ∷ [])) over ∙ ap (λ (l : List PartItem). p ++ l) (joined_last parts part over) ∙ sym (append_assoc p (joined parts) (part ++ over))

pub each_last : (parts : List (List PartItem)) (part over : List PartItem) → remaining_each (parts ++ part ∷ []) over ≡ remaining_each parts (part ++ over) ++ remaining part over ∷ []
each_last [] part over = refl
each_last (p ∷ parts) part over = ap₂ (λ (l : List PartItem) (rest : List (List PartItem)). remaining p l ∷ rest) (joined_last parts part over) (each_last parts part over)

pub joined_both : (a b : List (List PartItem)) → joined (a ++ b) ≡ joined a ++ joined b
joined_both [] b = refl
joined_both (p ∷ a) b = ap (λ (l : List PartItem). p ++ l) (joined_both a b) ∙ sym (append_assoc p (joined a) (joined b))

pub items_joined : (t : Tid) (hs : List HeldPart) → joined (held_of t hs) ≡ held_items t hs
items_joined t [] = refl
items_joined t (h ∷ hs) =
    elim (tid_same h.tid t) as (λ b. joined (if b then held_of t hs ++ h.part ∷ [] else held_of t hs) ≡ (if b then held_items t hs ++ h.part else held_items t hs)) [
      | true ↦ joined_both (held_of t hs) (h.part ∷ []) ∙ ap₂ (λ (a b : List PartItem). a ++ b) (items_joined t hs) (append-nil h.part)
      | false ↦ items_joined t hs
    ]

-- once an id is decided none of its parts is held; the others are
pub held_without : (u t : Tid) (hs : List HeldPart) → held_of t (without_tid u hs) ≡ (if tid_same u t then [] else held_of t hs)
held_without u t [] = of (tid_same u t)
  where
    of : (b : Bool) → (let none : List (List PartItem) = [] in none) ≡ (if b then [] else [])
    of true = refl
    of false = refl
held_without u t (h ∷ hs) =
    elim (tid_same h.tid u) as (λ b. tid_same h.tid u ≡ b → held_of t (if b then without_tid u hs else h ∷ without_tid u hs) ≡ (if tid_same u t then [] else (if tid_same h.tid t then held_of t hs ++ h.part ∷ [] else held_of t hs))) [
      | true ↦ λ is.
          held_without u t hs
          ∙ subst (λ (x : Tid). (if tid_same x t then [] else held_of t hs) ≡ (if tid_same x t then [] else (if tid_same h.tid t then held_of t hs ++ h.part ∷ [] else held_of t hs))) (tid_same-is h.tid u is)
          (elim (tid_same h.tid t) as (λ b. (if b then [] else held_of t hs) ≡ (if b then [] else (if b then held_of t hs ++ h.part ∷ [] else held_of t hs))) [ true ↦ refl | false ↦ refl ])
      | false ↦ λ off.
          ap (λ (l : List (List PartItem)). if tid_same h.tid t then l ++ h.part ∷ [] else l) (held_without u t hs)
          ∙ elim (tid_same h.tid t) as (λ b. tid_same h.tid t ≡ b → (if b then (if tid_same u t then [] else held_of t hs) ++ h.part ∷ [] else (if tid_same u t then [] else held_of t hs)) ≡ (if tid_same u t then [] else (if b then held_of t hs ++ h.part ∷ [] else held_of t hs))) [
            | true ↦ λ same.
                elim (tid_same u t) as (λ b. tid_same u t ≡ b → (if b then [] else held_of t hs) ++ h.part ∷ [] ≡ (if b then [] else held_of t hs ++ h.part ∷ [])) [
                  | true ↦ λ other. absurd (Rattle.mn_base.proofs.Booleans.clash (tid_same h.tid u) (ap (λ (x : Tid). tid_same h.tid x) (tid_same-is u t other) ∙ same) off)
                  | false ↦ λ _. refl
                ] refl
            | false ↦ λ _. refl
          ] refl
    ] refl

-- Held parts

pub held_decided : (old new : Held) (t : Tid) (verdict : Bool) (older : List Record) → HeldTells old older
    → ((q : Tid) → held_at new q ≡ (if tid_same t q then [] else held_at old q)) → HeldTells new (Decided t verdict ∷ older)
held_decided old new t verdict older tells updates q =
    updates q ∙ ap (λ (l : List (List PartItem)). if tid_same t q then [] else l) (tells q) ∙ sym (held_without t q (held_parts older))

pub taken_out : (o : Option Parts) (b : Bool) → option_map_or parts_of (cond b None o) [] ≡ (if b then [] else option_map_or parts_of o [])
taken_out o true = refl
taken_out o false = refl

pub put_in : (o : Option Parts) (p : Parts) (b : Bool) → option_map_or parts_of (cond b (Some p) o) [] ≡ (if b then parts_of p else option_map_or parts_of o [])
put_in o p true = refl
put_in o p false = refl

-- where what was taken out is put in again with one part more
pub added : (old mid new : Tid → List (List PartItem)) (t : Tid) (p : List (List PartItem)) (part : List PartItem) → ((q : Tid) → new q ≡ (if tid_same t q then p else mid q))
    → ((q : Tid) → mid q ≡ (if tid_same t q then [] else old q)) → p ≡ old t ++ part ∷ [] → (q : Tid) → new q ≡ (if tid_same t q then old q ++ part ∷ [] else old q)
added old mid new t p part puts takes is q =
    puts q ∙ elim (tid_same t q) as (λ b. tid_same t q ≡ b → (if b then p else mid q) ≡ (if b then old q ++ part ∷ [] else old q)) [
      | true ↦ λ same. is ∙ ap (λ (u : Tid). old u ++ part ∷ []) (tid_same-is t q same)
      | false ↦ λ off. takes q ∙ ap (λ (b : Bool). if b then [] else old q) off
    ] refl

-- Fates

put_again : (o value : Option Ended) (b : Bool) → cond b value (cond b None o) ≡ cond b value o
put_again o value true = refl
put_again o value false = refl

-- what stands of the ids where one is taken out and put in again
pub put_back : (key : IdKey) (t : Tid) (value : Option Ended) (old mid new : IdKey → Option Ended) → key ≡ id_key t
    → ((q : IdKey) → mid q ≡ cond (keys_same key q) None (old q)) → ((q : IdKey) → new q ≡ cond (keys_same key q) value (mid q))
    → (q : Tid) → new (id_key q) ≡ cond (tid_same t q) value (old (id_key q))
put_back key t value old mid new is takes puts q =
    puts (id_key q)
    ∙ ap₂ (λ (k : IdKey) (o : Option Ended). cond (keys_same k (id_key q)) value o) is
    (takes (id_key q) ∙ ap (λ (k : IdKey). cond (keys_same k (id_key q)) None (old (id_key q))) is)
    ∙ put_again (old (id_key q)) value (tid_same t q)

pub put_once : (key : IdKey) (t : Tid) (value : Option Ended) (old new : IdKey → Option Ended) → key ≡ id_key t
    → ((q : IdKey) → new q ≡ cond (keys_same key q) value (old q)) → (q : Tid) → new (id_key q) ≡ cond (tid_same t q) value (old (id_key q))
put_once key t value old new is puts q = puts (id_key q) ∙ ap (λ (k : IdKey). cond (keys_same k (id_key q)) value (old (id_key q))) is

-- after a decision
newer_decided : (old new : Newer) (t : Tid) (value : Ended) (fate : Fate) (items : List PartItem) (fates : Tid → Fate) (older : List Record)
    → OverTells new.over items
    → FateTells (Some value) fate (held_of t (held_parts older))
    → ((q : Tid) → get keys_same new.ended (id_key q) ≡ cond (tid_same t q) (Some value) (get keys_same old.ended (id_key q)))
    → ((q : Tid) → FateTells (get keys_same old.ended (id_key q)) (fates q) (held_of q (without_tid t (held_parts older))))
    → NewerTells new items (with_fate t fate fates) (held_parts older)
newer_decided old new t value fate items fates older written its updates ended = record {
  written = written;
  ended = λ q. subst (λ (o : Option Ended). FateTells o (with_fate t fate fates q) (held_of q (held_parts older))) (sym (updates q)) (of q);
}
  where
    turned : (a b : Tid) → tid_same a b ≡ tid_same b a
    turned a b = grind (arith, nat_tests)

    of : (q : Tid) → FateTells (cond (tid_same t q) (Some value) (get keys_same old.ended (id_key q))) (if tid_same q t then fate else fates q) (held_of q (held_parts older))
    of q =
        subst (λ (c : Bool). FateTells (cond (tid_same t q) (Some value) (get keys_same old.ended (id_key q))) (if c then fate else fates q) (held_of q (held_parts older))) (turned t q)
        (elim (tid_same t q) as (λ b. tid_same t q ≡ b → FateTells (cond b (Some value) (get keys_same old.ended (id_key q))) (if b then fate else fates q) (held_of q (held_parts older))) [
          | true ↦ λ is. subst (λ (x : Tid). FateTells (Some value) fate (held_of x (held_parts older))) (tid_same-is t q is) its
          | false ↦ λ off. subst (λ (l : List (List PartItem)). FateTells (get keys_same old.ended (id_key q)) (fates q) l) (held_without t q (held_parts older) ∙ ap (λ (b : Bool). if b then [] else held_of q (held_parts older)) off) (ended q)
        ] refl)

-- after a vote
newer_voted : (old new : Newer) (t : Tid) (value : Option Ended) (ps : List NodeNo) (part : List PartItem) (over : List PartItem) (fates : Tid → Fate) (older : List Record)
    → NewerTells old over fates (held_parts (Voted t ps part ∷ older))
    → (new.over ≡ old.over)
    → FateTells value (fate_before (fates t) part) (held_of t (held_parts older))
    → ((q : Tid) → get keys_same new.ended (id_key q) ≡ cond (tid_same t q) value (get keys_same old.ended (id_key q)))
    → NewerTells new over (with_fate t (fate_before (fates t) part) fates) (held_parts older)
newer_voted old new t value ps part over fates older tells same its updates = record {
  written = λ range. ap (λ o. contains ranges_same o (range_key range)) same ∙ tells.written range;
  ended = λ q. subst (λ (o : Option Ended). FateTells o (with_fate t (fate_before (fates t) part) fates q) (held_of q (held_parts older))) (sym (updates q)) (of q);
}
  where
    turned : (a b : Tid) → tid_same a b ≡ tid_same b a
    turned a b = grind (arith, nat_tests)

    of : (q : Tid) → FateTells (cond (tid_same t q) value (get keys_same old.ended (id_key q))) (if tid_same q t then fate_before (fates t) part else fates q) (held_of q (held_parts older))
    of q =
        subst (λ (c : Bool). FateTells (cond (tid_same t q) value (get keys_same old.ended (id_key q))) (if c then fate_before (fates t) part else fates q) (held_of q (held_parts older))) (turned t q)
        (elim (tid_same t q) as (λ b. tid_same t q ≡ b → FateTells (cond b value (get keys_same old.ended (id_key q))) (if b then fate_before (fates t) part else fates q) (held_of q (held_parts older))) [
          | true ↦ λ is. subst (λ (x : Tid). FateTells value (fate_before (fates t) part) (held_of x (held_parts older))) (tid_same-is t q is) its
          | false ↦ λ off. subst (λ (b : Bool). FateTells (get keys_same old.ended (id_key q)) (fates q) (if b then held_of q (held_parts older) ++ part ∷ [] else held_of q (held_parts older))) off (tells.ended q)
        ] refl)

-- what a vote keeps, and what then is known of the older records

abbrev KeepsVote : Newer → List PartItem → Tid → List PartItem → List PartItem → (Tid → Fate) → List Record → Type 0
KeepsVote new kept t part over fates older =
    (kept ≡ kept_part (fates t) part) × NewerTells new over (with_fate t (fate_before (fates t) part) fates) (held_parts older)

-- where no newer record decides its id
pub vote_open : (old new : Newer) (t : Tid) (ps : List NodeNo) (part over : List PartItem) (fates : Tid → Fate) (older : List Record)
    → new.over ≡ old.over → get keys_same old.ended (id_key t) ≡ None
    → ((q : Tid) → get keys_same new.ended (id_key q) ≡ cond (tid_same t q) None (get keys_same old.ended (id_key q)))
    → NewerTells old over fates (held_parts (Voted t ps part ∷ older)) → KeepsVote new part t part over fates older
vote_open old new t ps part over fates older same was updates tells =
    of (fates t) refl (subst (λ (o : Option Ended). FateTells o (fates t) (held_of t (held_parts (Voted t ps part ∷ older)))) was (tells.ended t))
  where
    of : (fate : Fate) → fates t ≡ fate → FateTells None fate (held_of t (held_parts (Voted t ps part ∷ older))) → KeepsVote new part t part over fates older
    of Open is it = (
      ap (λ (f : Fate). kept_part f part) (sym is),
      newer_voted old new t None ps part over fates older tells same (subst (λ (f : Fate). FateTells None (fate_before f part) (held_of t (held_parts older))) (sym is) tt) updates,
    )
    of Dropped is it = absurd it
    of (Applied items) is it = absurd it

-- where a newer one says no
pub vote_dropped : (old new : Newer) (t : Tid) (ps : List NodeNo) (part over : List PartItem) (fates : Tid → Fate) (older : List Record)
    → new.over ≡ old.over → get keys_same old.ended (id_key t) ≡ Some End.Dropped
    → ((q : Tid) → get keys_same new.ended (id_key q) ≡ cond (tid_same t q) (Some End.Dropped) (get keys_same old.ended (id_key q)))
    → NewerTells old over fates (held_parts (Voted t ps part ∷ older)) → KeepsVote new (first_read part) t part over fates older
vote_dropped old new t ps part over fates older same was updates tells =
    of (fates t) refl (subst (λ (o : Option Ended). FateTells o (fates t) (held_of t (held_parts (Voted t ps part ∷ older)))) was (tells.ended t))
  where
    of : (fate : Fate) → fates t ≡ fate → FateTells (Some End.Dropped) fate (held_of t (held_parts (Voted t ps part ∷ older))) → KeepsVote new (first_read part) t part over fates older
    of Open is it = absurd it
    of Dropped is it = (
      ap (λ (f : Fate). kept_part f part) (sym is),
      newer_voted old new t (Some End.Dropped) ps part over fates older tells same (subst (λ (f : Fate). FateTells (Some End.Dropped) (fate_before f part) (held_of t (held_parts older))) (sym is) tt) updates,
    )
    of (Applied items) is it = absurd it

-- what the newest of the parts leaves
abbrev pub TakesNewest : Kept → List PartItem → Kept → Type 0
TakesNewest was items left =
    (older : List (List PartItem)) (part : List PartItem) → queue_of was ≡ older ++ part ∷ [] → (items ≡ part) × (queue_of left ≡ older)

-- where a newer one says yes
pub vote_applied : (old new : Newer) (t : Tid) (ps : List NodeNo) (part over : List PartItem) (fates : Tid → Fate) (older : List Record)
    (kept left : Kept) (items : List PartItem) → TakesNewest kept items left
    → new.over ≡ old.over → get keys_same old.ended (id_key t) ≡ Some (End.Applied kept)
    → ((q : Tid) → get keys_same new.ended (id_key q) ≡ cond (tid_same t q) (Some (End.Applied left)) (get keys_same old.ended (id_key q)))
    → NewerTells old over fates (held_parts (Voted t ps part ∷ older)) → KeepsVote new (or_first_read part items) t part over fates older
vote_applied old new t ps part over fates older kept left items takes same was updates tells =
    of (fates t) refl (subst (λ (o : Option Ended). FateTells o (fates t) (held_of t (held_parts (Voted t ps part ∷ older)))) was (tells.ended t))
  where
    of : (fate : Fate) → fates t ≡ fate → FateTells (Some (End.Applied kept)) fate (held_of t (held_parts (Voted t ps part ∷ older))) → KeepsVote new (or_first_read part items) t part over fates older
    of Open is it = absurd it
    of Dropped is it = absurd it
    of (Applied behind) is it =
        let mine : held_of t (held_parts (Voted t ps part ∷ older)) ≡ held_of t (held_parts older) ++ part ∷ [] =
        ap (λ (b : Bool). if b then held_of t (held_parts older) ++ part ∷ [] else held_of t (held_parts older)) (tid_same-itself t) in
        let queue : queue_of kept ≡ remaining_each (held_of t (held_parts older)) (part ++ behind) ++ remaining part behind ∷ [] =
        it ∙ ap (λ (l : List (List PartItem)). remaining_each l behind) mine ∙ each_last (held_of t (held_parts older)) part behind in
        let both = takes (remaining_each (held_of t (held_parts older)) (part ++ behind)) (remaining part behind) queue in (
          ap (λ (l : List PartItem). or_first_read part l) both.0 ∙ ap (λ (f : Fate). kept_part f part) (sym is),
          newer_voted old new t (Some (End.Applied left)) ps part over fates older tells same
              (subst (λ (f : Fate). FateTells (Some (End.Applied left)) (fate_before f part) (held_of t (held_parts older))) (sym is) both.1) updates,
        )

-- after a decision that ends these parts
pub decision_noted : (old new : Newer) (t : Tid) (verdict : Bool) (value : Ended) (parts : List (List PartItem)) (over : List PartItem) (fates : Tid → Fate) (older : List Record)
    → ((q : Tid) → get keys_same new.ended (id_key q) ≡ cond (tid_same t q) (Some value) (get keys_same old.ended (id_key q)))
    → FateTells (Some value) (if verdict then Applied over else Dropped) parts
    → OverTells new.over (if verdict then joined parts ++ over else over)
    → NewerTells old over fates (held_parts (Decided t verdict ∷ older)) → parts ≡ held_of t (held_parts older)
    → NewerTells new (if verdict then held_items t (held_parts older) ++ over else over) (with_fate t (if verdict then Applied over else Dropped) fates) (held_parts older)
decision_noted old new t verdict value parts over fates older updates its written tells are =
    newer_decided old new t value (if verdict then Applied over else Dropped) (if verdict then held_items t (held_parts older) ++ over else over) fates older
    (subst (λ (l : List PartItem). OverTells new.over (if verdict then l ++ over else over)) (ap joined are ∙ items_joined t (held_parts older)) written)
    (subst (λ (l : List (List PartItem)). FateTells (Some value) (if verdict then Applied over else Dropped) l) are its)
    updates tells.ended

-- Going back over a part

pub turned_push : {X : Type 0} (xs : List X) (x : X) → reverse (xs ++ x ∷ []) ≡ x ∷ reverse xs
turned_push xs x = Rattle.std.proofs.lemmas.List.reverse-append xs (x ∷ [])

pub step_kept : {S : Type 0} (old new : HashSet RangeKey S) (start : ℕ) (bytes : List ℕ) (rest items kept : List PartItem)
    → reverse kept ≡ remaining rest items → OverTells old (rest ++ items)
    → contains ranges_same old (record { start = start; length = length bytes }) ≡ false
    → ((q : RangeKey) → contains ranges_same new q ≡ cond (ranges_same (record { start = start; length = length bytes }) q) true (contains ranges_same old q))
    → (reverse (kept ++ Write start bytes ∷ []) ≡ remaining (Write start bytes ∷ rest) items) × OverTells new (Write start bytes ∷ (rest ++ items))
step_kept old new start bytes rest items kept done tells none updates = (
  turned_push kept (Write start bytes) ∙ ap (λ (l : List PartItem). Write start bytes ∷ l) done
      ∙ sym (remains_written start bytes rest items (sym (tells (range_of (Write start bytes))) ∙ none)),
  over_written old new start bytes (rest ++ items) tells updates,
)

pub step_gone : {S : Type 0} (old new : HashSet RangeKey S) (start : ℕ) (bytes : List ℕ) (rest items kept : List PartItem)
    → reverse kept ≡ remaining rest items → OverTells old (rest ++ items)
    → contains ranges_same old (record { start = start; length = length bytes }) ≡ true
    → ((q : RangeKey) → contains ranges_same new q ≡ cond (ranges_same (record { start = start; length = length bytes }) q) true (contains ranges_same old q))
    → (reverse kept ≡ remaining (Write start bytes ∷ rest) items) × OverTells new (Write start bytes ∷ (rest ++ items))
step_gone old new start bytes rest items kept done tells there updates = (
  done ∙ sym (goes_written start bytes rest items (sym (tells (range_of (Write start bytes))) ∙ there)),
  over_written old new start bytes (rest ++ items) tells updates,
)

-- Going back over parts

pub step_each : {S : Type 0} (new : HashSet RangeKey S) (part : List PartItem) (rest : List (List PartItem)) (items left : List PartItem) (queue : List (List PartItem))
    → queue ≡ remaining_each rest items → left ≡ remaining part (joined rest ++ items) → OverTells new (part ++ (joined rest ++ items))
    → (left ∷ queue ≡ remaining_each (part ∷ rest) items) × OverTells new (joined (part ∷ rest) ++ items)
step_each new part rest items left queue done is tells = (
  ap₂ (λ (l : List PartItem) (ls : List (List PartItem)). l ∷ ls) is done,
  subst (λ (l : List PartItem). OverTells new l) (sym (append_assoc part (joined rest) items)) tells,
)

-- no item is left, or some is
none_is : (n : ℕ) → nat_eq n 0 ≡ true → n ≡ 0
none_is n e = grind (arith, nat_tests)

pub left_none : (items : List PartItem) → nat_eq (length items) 0 ≡ true → items ≡ []
left_none [] none = refl
left_none (item ∷ items) none = let e : suc (length items) ≡ 0 = none_is (suc (length items)) none in absurd cc

pub left_some : (part items : List PartItem) → nat_eq (length items) 0 ≡ false → items ≡ or_first_read part items
left_some part [] some = absurd cc
left_some part (item ∷ items) some = refl

-- Going back over the records

last_same : {X : Type 0} (xs ys : List X) (y z : X) → xs ++ y ∷ [] ≡ ys ++ z ∷ [] → (xs ≡ ys) × (y ≡ z)
last_same [] [] y z e = let same : y ≡ z = cc in (refl, same)
last_same [] (b ∷ []) y z e = absurd cc
last_same [] (b ∷ (c ∷ ys)) y z e = absurd cc
last_same (a ∷ []) [] y z e = absurd cc
last_same (a ∷ (c ∷ xs)) [] y z e = absurd cc
last_same {X = X} (a ∷ xs) (b ∷ ys) y z e =
    let heads : a ≡ b = cc in
    let tails : xs ++ y ∷ [] ≡ ys ++ z ∷ [] = cc in
    let rest = last_same xs ys y z tails in
    (ap₂ (λ (h : X) (t : List X). h ∷ t) heads rest.0, rest.1)

-- the last of a list is taken off, of which more is known
pub popped : {X Y : Type 0} (f : X → Y) (old left : List X) (x : X) → old ≡ left ++ x ∷ [] → (older : List Y) (y : Y) → map f old ≡ older ++ y ∷ [] → (f x ≡ y) × (map f left ≡ older)
popped f old left x is older y e =
    let both = last_same (map f left) older (f x) y (sym (map-append f left (x ∷ [])) ∙ sym (ap (map f) is) ∙ e) in
    (both.1, both.0)

pub none_popped : {X Y : Type 0} (f : X → Y) (old : List X) → length old ≡ 0 → (older : List Y) (y : Y) → map f old ≡ older ++ y ∷ [] → ⊥
none_popped f [] none [] y e = absurd cc
none_popped f [] none (z ∷ older) y e = absurd cc
none_popped f (x ∷ old) none older y e = absurd cc

goes_on : (kept rest whole : List Record) (r : Record) → kept ++ r ∷ rest ≡ whole → (kept ++ r ∷ []) ++ rest ≡ whole
goes_on kept rest whole r e = append_assoc kept (r ∷ []) rest ∙ e

pub goes_voted : (old new : Newer) (kept : List Record) (t : Tid) (ps : List NodeNo) (part left : List PartItem) (older whole : List Record) (g : Goes old kept (Voted t ps part ∷ older) whole)
    → left ≡ kept_part (g.fates t) part → NewerTells new g.over (with_fate t (fate_before (g.fates t) part) g.fates) (held_parts older)
    → Goes new (kept ++ Voted t ps left ∷ []) older whole
goes_voted old new kept t ps part left older whole g is tells = record {
  over = g.over;
  fates = with_fate t (fate_before (g.fates t) part) g.fates;
  tells = tells;
  goes = goes_on kept (shortened_below g.over (with_fate t (fate_before (g.fates t) part) g.fates) older) (shortened whole) (Voted t ps left)
      (ap (λ (p : List PartItem). kept ++ Voted t ps p ∷ shortened_below g.over (with_fate t (fate_before (g.fates t) part) g.fates) older) is ∙ g.goes);
}

-- where more is written and nothing more is decided
ended_stays : (old new : Newer) (before after : List PartItem) (fates : Tid → Fate) (hs : List HeldPart) → new.ended ≡ old.ended → NewerTells old before fates hs → OverTells new.over after → NewerTells new after fates hs
ended_stays old new before after fates hs same tells written = record {
  written = written;
  ended = λ q. subst (λ e. FateTells (get keys_same e (id_key q)) (fates q) (held_of q hs)) (sym same) (tells.ended q);
}

-- an execution of which nothing remains
pub goes_gone : (old new : Newer) (kept : List Record) (t : Tid) (part left : List PartItem) (older whole : List Record)
    → nat_eq (length left) 0 ≡ true → new.ended ≡ old.ended → ((over : List PartItem) → OverTells old.over over → (left ≡ remaining part over) × OverTells new.over (part ++ over))
    → Goes old kept (Executed t part ∷ older) whole → Goes new kept older whole
goes_gone old new kept t part left older whole none same remains g =
    let both = remains g.over g.tells.written in
    record {
      over = part ++ g.over;
      fates = g.fates;
      tells = ended_stays old new g.over (part ++ g.over) g.fates (held_parts older) same g.tells both.1;
      goes = ap (λ (p : List PartItem). kept ++ executed_over t p (shortened_below (part ++ g.over) g.fates older)) (sym (left_none left none) ∙ both.0) ∙ g.goes;
    }

-- one of which items remain
pub goes_executed : (old new : Newer) (kept : List Record) (t : Tid) (part left : List PartItem) (older whole : List Record)
    → nat_eq (length left) 0 ≡ false → new.ended ≡ old.ended → ((over : List PartItem) → OverTells old.over over → (left ≡ remaining part over) × OverTells new.over (part ++ over))
    → Goes old kept (Executed t part ∷ older) whole → Goes new (kept ++ Executed t left ∷ []) older whole
goes_executed old new kept t part [] older whole some same remains g = absurd cc
goes_executed old new kept t part (item ∷ left) older whole some same remains g =
    let both = remains g.over g.tells.written in
    record {
      over = part ++ g.over;
      fates = g.fates;
      tells = ended_stays old new g.over (part ++ g.over) g.fates (held_parts older) same g.tells both.1;
      goes = goes_on kept (shortened_below (part ++ g.over) g.fates older) (shortened whole) (Executed t (item ∷ left))
          (ap (λ (p : List PartItem). kept ++ executed_over t p (shortened_below (part ++ g.over) g.fates older)) both.0 ∙ g.goes);
    }

pub goes_decided : (old new : Newer) (kept : List Record) (t : Tid) (verdict : Bool) (older whole : List Record) (g : Goes old kept (Decided t verdict ∷ older) whole)
    → NewerTells new (if verdict then held_items t (held_parts older) ++ g.over else g.over) (with_fate t (if verdict then Applied g.over else Dropped) g.fates) (held_parts older)
    → Goes new (kept ++ Decided t verdict ∷ []) older whole
goes_decided old new kept t true older whole g tells = record {
  over = held_items t (held_parts older) ++ g.over;
  fates = with_fate t (Applied g.over) g.fates;
  tells = tells;
  goes = goes_on kept (shortened_below (held_items t (held_parts older) ++ g.over) (with_fate t (Applied g.over) g.fates) older) (shortened whole) (Decided t true) g.goes;
}
goes_decided old new kept t false older whole g tells = record {
  over = g.over;
  fates = with_fate t Dropped g.fates;
  tells = tells;
  goes = goes_on kept (shortened_below g.over (with_fate t Dropped g.fates) older) (shortened whole) (Decided t false) g.goes;
}

pub goes_forced : (newer : Newer) (kept : List Record) (t : Tid) (older whole : List Record) (g : Goes newer kept (Forced t ∷ older) whole) → Goes newer (kept ++ Forced t ∷ []) older whole
goes_forced newer kept t older whole g = record {
  over = g.over;
  fates = g.fates;
  tells = g.tells;
  goes = goes_on kept (shortened_below g.over g.fates older) (shortened whole) (Forced t) g.goes;
}

-- before the first record
pub goes_first : (newer : Newer) (whole : List Record) → newer.over.keys ≡ [] → newer.ended.entries ≡ [] → Goes newer [] whole whole
goes_first newer whole none nothing = record {
  over = [];
  fates = all_open;
  tells = record {
    written = λ range. ap (list_any (ranges_same (range_key range))) none;
    ended = λ q. subst (λ (o : Option Ended). FateTells o Open (held_of q (held_parts whole))) (sym (ap (lookup (keys_same (id_key q))) nothing)) tt;
  };
  goes = refl;
}

-- and behind the last
pub goes_last : (newer : Newer) (kept records : List Record) → Goes newer kept [] (reverse records) → reverse kept ≡ short records
goes_last newer kept records g = ap (λ (l : List Record). reverse l) (sym (append-nil kept) ∙ g.goes)

-- Going forward

pub next_record : (records : List Record) (n : ℕ) (r : Record) → n < length records → r ≡ Rattle.std.proofs.Common.get_or records n r → reverse (take (n + 1) records) ≡ r ∷ reverse (take n records)
next_record records n r less is =
    ap (λ (l : List Record). reverse l) (Rattle.std.proofs.lemmas.List.take_more records n r less) ∙ turned_push (take n records) (Rattle.std.proofs.Common.get_or records n r) ∙ ap (λ (x : Record). x ∷ reverse (take n records)) (sym is)

-- Going back

pub from_here : {X : Type 0} (xs : List X) (n : ℕ) (x : X) → 0 < n → n ≤ length xs → x ≡ Rattle.std.proofs.Common.get_or xs (n - 1) x → drop (n - 1) xs ≡ x ∷ drop n xs
from_here {X = X} xs n x lt le is =
    let back : suc (n - 1) ≡ n = omega (arith, lt) in
    Rattle.std.proofs.Math.Seq.drop-cons xs (n - 1) x (omega (arith, lt, le)) ∙ ap₂ (λ (y : X) (m : ℕ). y ∷ drop m xs) (sym is) back

pub before_here : (records : List Record) (n : ℕ) (r : Record) → 0 < n → n ≤ length records → r ≡ Rattle.std.proofs.Common.get_or records (n - 1) r → reverse (take n records) ≡ r ∷ reverse (take (n - 1) records)
before_here records n r lt le is =
    let back : (n - 1) + 1 ≡ n = omega (arith, lt) in
    subst (λ (m : ℕ). reverse (take m records) ≡ r ∷ reverse (take (n - 1) records)) back (next_record records (n - 1) r (omega (arith, lt, le)) is)
