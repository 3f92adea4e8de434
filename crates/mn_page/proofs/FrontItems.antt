-- The keys of a page with what they hold, read one behind the other.
use Rattle.std.proofs.Common.{◌≡◌, ℕ, suc, Bool, true, false, List, ◌++◌, Option, sym, subst, refl}
use Rattle.mn_base.specs.declared.ids.Addr.{Addr}
use Rattle.mn_base.proofs.Booleans.{clash}
use Rattle.mn_page.specs.Grammar.{IsAddr, addr_bytes, counted}
use Rattle.mn_page.specs.Reading.{Begins, as_they_stand}
use Rattle.mn_page.specs.PageFronts.{BehindCount, BehindFences, Decides, HasKeys, IsCount, IsHeld, IsKeyAt, IsKeyIn, IsLeastOver, Items, Judged, Then, count_text}
use Rattle.mn_page.proofs.PageFronts.{addr_cuts, count_cuts, counted_cuts, held_cuts, keys_above, some_held, some_items, then_cut, then_whole}
use Rattle.mn_page.proofs.FrontKeys.{judged_same, key_at, key_in}

-- what stands behind a key
abbrev pub BehindKey : Bool → Option (List ℕ) → ℕ → List ℕ → List ℕ → Type 0
BehindKey leaf high n key text = Then (IsHeld leaf) as_they_stand (λ held last. Items leaf false key high n last) text

some_behind_key : (leaf from : Bool) (base : List ℕ) (high : Option (List ℕ)) (n : ℕ) (key : List ℕ) → IsKeyAt from base n high key → (tail : List ℕ) × BehindKey leaf high n key tail
some_behind_key leaf from base high n key is =
    let held = some_held leaf in
    let rest = some_items leaf n false key high (keys_above n key high is.2) in
    (held.0 ++ rest.0, record { value = held.0; rest = rest.0; may = held.1; spelled = refl; follows = rest.1 })

pub items_key : (leaf from : Bool) (base least : List ℕ) (high : Option (List ℕ)) (n keys : ℕ) (bytes : List ℕ) (goes : Bool) → keys ≡ suc n → IsLeastOver from base least → Judged (IsKeyIn 1 least n high) counted bytes goes
    → Decides (Items leaf from base high keys) bytes goes
items_key leaf from base least high n keys bytes goes e is j =
    subst (λ (k : ℕ). Decides (Items leaf from base high k) bytes goes) (sym e)
    (then_cut (IsKeyAt from base n high) counted (BehindKey leaf high n) bytes goes (some_behind_key leaf from base high n)
    (judged_same (IsKeyIn 1 least n high) (IsKeyAt from base n high) counted bytes goes (key_at from base least n high is) (key_in from base least n high is) j))

pub items_behind : (leaf from : Bool) (base least : List ℕ) (high : Option (List ℕ)) (n keys : ℕ) (bytes key behind : List ℕ) → keys ≡ suc n → IsLeastOver from base least → Begins (IsKeyIn 1 least n high) counted bytes key behind
    → (goes : Bool) → Decides (BehindKey leaf high n key) behind goes → Decides (Items leaf from base high keys) bytes goes
items_behind leaf from base least high n keys bytes key behind e is b goes d =
    subst (λ (k : ℕ). Decides (Items leaf from base high k) bytes goes) (sym e)
    (then_whole (IsKeyAt from base n high) counted (BehindKey leaf high n) bytes key behind (counted_cuts (IsKeyAt from base n high)) (record { may = key_at from base least n high is key b.may; spelled = b.spelled }) goes d)

pub held_cut : (leaf : Bool) (high : Option (List ℕ)) (n : ℕ) (key behind : List ℕ) (goes : Bool) → HasKeys false key n high → Judged (IsHeld leaf) as_they_stand behind goes → Decides (BehindKey leaf high n key) behind goes
held_cut leaf high n key behind goes has j = then_cut (IsHeld leaf) as_they_stand (λ held last. Items leaf false key high n last) behind goes (λ held is. some_items leaf n false key high has) j

pub held_whole : (leaf : Bool) (high : Option (List ℕ)) (n : ℕ) (key behind held rest : List ℕ) → Begins (IsHeld leaf) as_they_stand behind held rest → (goes : Bool) → Decides (Items leaf false key high n) rest goes
    → Decides (BehindKey leaf high n key) behind goes
held_whole leaf high n key behind held rest b goes d = then_whole (IsHeld leaf) as_they_stand (λ held last. Items leaf false key high n last) behind held rest (held_cuts leaf) b goes d

-- Behind the count

pub body_leaf : (leaf : Bool) (low : List ℕ) (high : Option (List ℕ)) (keys : ℕ) (behind bytes : List ℕ) → leaf ≡ true → Begins (IsCount leaf low high) (count_text leaf) bytes keys behind → (goes : Bool) → Decides (Items true true low high keys) behind goes
    → Decides (BehindFences leaf low high) bytes goes
body_leaf true low high keys behind bytes e b goes d = then_whole (IsCount true low high) (count_text true) (BehindCount true low high) bytes keys behind (count_cuts true (IsCount true low high)) b goes d
body_leaf false low high keys behind bytes e b goes d = absurd (clash false e refl)

pub body_addr : (leaf : Bool) (low : List ℕ) (high : Option (List ℕ)) (keys : ℕ) (behind bytes : List ℕ) → leaf ≡ false → Begins (IsCount leaf low high) (count_text leaf) bytes keys behind → (goes : Bool) → Judged IsAddr addr_bytes behind goes
    → Decides (BehindFences leaf low high) bytes goes
body_addr true low high keys behind bytes e b goes j = absurd (clash true refl e)
body_addr false low high keys behind bytes e b goes j =
    then_whole (IsCount false low high) (count_text false) (BehindCount false low high) bytes keys behind (count_cuts false (IsCount false low high)) b goes
    (then_cut IsAddr addr_bytes (λ (addr : Addr) more. Items false false low high keys more) behind goes (λ addr is. some_items false keys false low high (b.may).2) j)

pub body_inner : (leaf : Bool) (low : List ℕ) (high : Option (List ℕ)) (keys : ℕ) (behind bytes rest : List ℕ) (addr : Addr) → leaf ≡ false → Begins (IsCount leaf low high) (count_text leaf) bytes keys behind
    → Begins IsAddr addr_bytes behind addr rest → (goes : Bool) → Decides (Items false false low high keys) rest goes → Decides (BehindFences leaf low high) bytes goes
body_inner true low high keys behind bytes rest addr e b a goes d = absurd (clash true refl e)
body_inner false low high keys behind bytes rest addr e b a goes d =
    then_whole (IsCount false low high) (count_text false) (BehindCount false low high) bytes keys behind (count_cuts false (IsCount false low high)) b goes
    (then_whole IsAddr addr_bytes (λ (addr : Addr) more. Items false false low high keys more) behind addr rest addr_cuts a goes d)

pub count_has : (leaf : Bool) (low : List ℕ) (high : Option (List ℕ)) (n : ℕ) → IsCount leaf low high n → HasKeys leaf low n high
count_has true low high n is = is.1
count_has false low high n is = is.2
