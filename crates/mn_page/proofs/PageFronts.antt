-- One field behind the other: what follows each, and that there always is something.
use Rattle.std.proofs.Common.{◌≡◌, ℕ, zero, suc, ◌+◌, Bool, true, false, List, [], ◌∷◌, ◌++◌, drop, get_or, Option, None, refl, sym, ap, ◌∙◌, subst, arith, append_assoc}
use Rattle.std.specs.Prelude.{MatchResult}
use Rattle.std.specs.declared.result.Result.{Result}
use Rattle.std.specs.declared.result.Result.TheVariants.{Ok, Err}
use Rattle.byteorder.specs.Endian.{big_bytes}
use Rattle.mn_base.specs.declared.ids.Addr.{Addr}
use Rattle.mn_page.specs.Grammar.{IsAddr, addr_bytes, counted, high_bytes}
use Rattle.mn_page.specs.KeyRoom.{HasRoomForKeys}
use Rattle.mn_page.specs.Reading.{AreVersions, Begins, IsSeq, are_above, as_they_stand, eight, height_text, versions_text}
use Rattle.mn_page.specs.PageFronts.{BehindCount, BehindFences, BehindHeight, BehindLow, BehindSeq, BehindVersions, Decides, FromSeq, HasKeys, IsCount, IsHeight, IsHeld, IsLowAt, Items, Judged, Then, count_text, least_keys}
use Rattle.mn_page.proofs.Spelled.{addr_cut, big_bytes-inj, counted_cut, cut, high_cut}

-- no text is a longer one's front
abbrev pub Cuts : {X : Type 0} → (X → Type 0) → (X → List ℕ) → Type 0
Cuts {X = X} Is spelling = (x y : X) (c d : List ℕ) → Is x → Is y → spelling x ++ c ≡ spelling y ++ d → (x ≡ y) × (c ≡ d)

-- bytes that end in a field go on as the field does
pub then_cut : {X : Type 0} (Is : X → Type 0) (spelling : X → List ℕ) (Follows : X → List ℕ → Type 0) (bytes : List ℕ) (goes : Bool) → ((x : X) → Is x → (tail : List ℕ) × Follows x tail)
    → Judged Is spelling bytes goes → Decides (Then Is spelling Follows) bytes goes
then_cut Is spelling Follows bytes true some j =
    let more = some j.0 j.2 in (
      j.1 ++ more.0,
      record {
        value = j.0;
        rest = more.0;
        may = j.2;
        spelled = sym (append_assoc bytes j.1 more.0) ∙ ap (λ (l : List ℕ). l ++ more.0) (sym j.3);
        follows = more.1;
      },
    )
then_cut Is spelling Follows bytes false some j = λ tail t. j t.value tail t.rest t.may t.spelled

-- behind a whole field they go on as what follows it
pub then_whole : {X : Type 0} (Is : X → Type 0) (spelling : X → List ℕ) (Follows : X → List ℕ → Type 0) (bytes : List ℕ) (x : X) (rest : List ℕ) → Cuts Is spelling → Begins Is spelling bytes x rest
    → (goes : Bool) → Decides (Follows x) rest goes → Decides (Then Is spelling Follows) bytes goes
then_whole Is spelling Follows bytes x rest cuts b true d = (
  d.0,
  record { value = x; rest = rest ++ d.0; may = b.may; spelled = ap (λ (l : List ℕ). l ++ d.0) b.spelled ∙ append_assoc (spelling x) rest d.0; follows = d.1 },
)
then_whole {X = X} Is spelling Follows bytes x rest cuts b false d = λ tail t.
    let same = cuts x t.value (rest ++ tail) t.rest b.may t.may (sym (append_assoc (spelling x) rest tail) ∙ (ap (λ (l : List ℕ). l ++ tail) (sym b.spelled) ∙ t.spelled)) in
    d tail (subst (λ (l : List ℕ). Follows x l) (sym same.1) (subst (λ (y : X). Follows y t.rest) (sym same.0) t.follows))

-- what is told of what follows is told of the whole
pub through : {A : Type 0} (One All : List ℕ → Type 0) (rest bytes : List ℕ) → ((goes : Bool) → Decides One rest goes → Decides All bytes goes) → (r : Result A Bool)
    → MatchResult r (λ a. Decides One rest true) (λ goes. Decides One rest goes) → MatchResult r (λ a. Decides All bytes true) (λ goes. Decides All bytes goes)
through One All rest bytes more (Ok a) d = more true d
through One All rest bytes more (Err goes) d = more goes d

-- Each field has one spelling

pub seq_cuts : Cuts IsSeq eight
unfolding eight
seq_cuts x y c d is iq e =
    let r = cut (big_bytes 8 x) (big_bytes 8 y) c d refl e in
    (big_bytes-inj 8 x y (omega (arith, is.1)) (omega (arith, iq.1)) r.0, r.1)

pub height_cuts : Cuts IsHeight height_text
height_cuts x y c d is iq e =
    let rest : big_bytes 2 x ++ c ≡ big_bytes 2 y ++ d = ap (drop 1) e in
    let r = cut (big_bytes 2 x) (big_bytes 2 y) c d refl rest in
    (big_bytes-inj 2 x y (omega (arith, is)) (omega (arith, iq)) r.0, r.1)

pub versions_cuts : Cuts AreVersions versions_text
unfolding eight
versions_cuts x y c d is iq e =
    let made : x.0 ≡ y.0 = ap (λ (l : List ℕ). get_or l 0 0) e in
    let rest : big_bytes 8 x.1 ++ c ≡ big_bytes 8 y.1 ++ d = ap (drop 1) e in
    let r = cut (big_bytes 8 x.1) (big_bytes 8 y.1) c d refl rest in
    let copied : x.1 ≡ y.1 = big_bytes-inj 8 x.1 y.1 (omega (arith, is.1)) (omega (arith, iq.1)) r.0 in
    (ap (λ (n : ℕ). (n, x.1)) made ∙ ap (λ (n : ℕ). (y.0, n)) copied, r.1)

pub counted_cuts : (Is : List ℕ → Type 0) → Cuts Is counted
counted_cuts Is x y c d is iq e = counted_cut x y c d e

pub high_cuts : (Is : Option (List ℕ) → Type 0) → Cuts Is high_bytes
high_cuts Is x y c d is iq e = high_cut x y c d e

pub addr_cuts : Cuts IsAddr addr_bytes
addr_cuts x y c d is iq e = addr_cut x y c d is iq e

pub count_cuts : (leaf : Bool) (Is : ℕ → Type 0) → Cuts Is (count_text leaf)
count_cuts true Is x y c d is iq e = (ap (λ (l : List ℕ). get_or l 0 0) e, ap (drop 1) e)
count_cuts false Is x y c d is iq e = let one : x + 1 ≡ y + 1 = ap (λ (l : List ℕ). get_or l 0 0) e in (omega (arith, one), ap (drop 1) e)

pub held_cuts : (leaf : Bool) → Cuts (IsHeld leaf) as_they_stand
held_cuts true x y c d is iq e =
    let r = counted_cut is.0 iq.0 c d (ap (λ (l : List ℕ). l ++ c) (sym is.2) ∙ (e ∙ ap (λ (l : List ℕ). l ++ d) iq.2)) in
    (is.2 ∙ (ap counted r.0 ∙ sym iq.2), r.1)
held_cuts false x y c d is iq e =
    let r = addr_cut is.0 iq.0 c d is.1 iq.1 (ap (λ (l : List ℕ). l ++ c) (sym is.2) ∙ (e ∙ ap (λ (l : List ℕ). l ++ d) iq.2)) in
    (is.2 ∙ (ap addr_bytes r.0 ∙ sym iq.2), r.1)

-- Something always follows

pub keys_above : (n : ℕ) (key : List ℕ) (high : Option (List ℕ)) → HasRoomForKeys key n high → HasKeys false key n high
keys_above zero key high room = tt
keys_above (suc n) key high room = (room.0, room.1, room.2, room.3)

no_addr : Addr
no_addr = record { node = record { 0 = 0 }; slot = 0 }

pub some_held : (leaf : Bool) → (tail : List ℕ) × IsHeld leaf tail
unfolding no_addr
some_held true = (0 ∷ [], ([], (omega arith, refl), refl))
some_held false = (addr_bytes no_addr, (no_addr, (omega arith, omega arith), refl))

pub some_items : (leaf : Bool) (n : ℕ) (from : Bool) (base : List ℕ) (high : Option (List ℕ)) → HasKeys from base n high → (tail : List ℕ) × Items leaf from base high n tail
some_items leaf zero from base high has = ([], refl)
some_items leaf (suc n) from base high has =
    let key = has.0 in
    let rest = some_items leaf n false key high (keys_above n key high has.3) in
    let held = some_held leaf in (
      counted key ++ (held.0 ++ rest.0),
      record {
        value = key;
        rest = held.0 ++ rest.0;
        may = (has.1, has.2, has.3);
        spelled = refl;
        follows = record { value = held.0; rest = rest.0; may = held.1; spelled = refl; follows = rest.1 };
      },
    )

pub some_behind_count : (leaf : Bool) (low : List ℕ) (high : Option (List ℕ)) (n : ℕ) → IsCount leaf low high n → (tail : List ℕ) × BehindCount leaf low high n tail
some_behind_count true low high n is = some_items true n true low high is.1
some_behind_count false low high n is =
    let rest = some_items false n false low high is.2 in
    let addr = some_held false in
    let told = addr.1 in
    (addr_bytes told.0 ++ rest.0, record { value = told.0; rest = rest.0; may = told.1; spelled = refl; follows = rest.1 })

pub some_count : (leaf : Bool) (low : List ℕ) (high : Option (List ℕ)) → HasRoomForKeys low (least_keys leaf) high → (n : ℕ) × IsCount leaf low high n
some_count true low high room = (0, (omega arith, tt))
some_count false low high room = (1, (omega arith, omega arith, (room.0, room.1, room.2, room.3)))

pub some_body : (leaf : Bool) (low : List ℕ) (high : Option (List ℕ)) → HasRoomForKeys low (least_keys leaf) high → (tail : List ℕ) × BehindFences leaf low high tail
some_body leaf low high room =
    let n = some_count leaf low high room in
    let rest = some_behind_count leaf low high n.0 n.1 in
    (count_text leaf n.0 ++ rest.0, record { value = n.0; rest = rest.0; may = n.1; spelled = refl; follows = rest.1 })

pub some_behind_low : (leaf : Bool) (low : List ℕ) → IsLowAt leaf low → (tail : List ℕ) × BehindLow leaf low tail
some_behind_low leaf low is =
    let rest = some_body leaf low None is.2 in
    (0 ∷ rest.0, record { value = None; rest = rest.0; may = (tt, is.2); spelled = refl; follows = rest.1 })

pub some_low : (leaf : Bool) → (low : List ℕ) × IsLowAt leaf low
some_low true = ([], ((omega arith, omega arith, refl), refl, refl))
some_low false = ([], ((omega arith, omega arith, refl), refl, (0 ∷ [], (omega arith, omega arith, refl), refl, refl)))

pub some_behind_versions : (leaf : Bool) → (tail : List ℕ) × BehindVersions leaf tail
some_behind_versions leaf =
    let low = some_low leaf in
    let rest = some_behind_low leaf low.0 low.1 in
    (counted low.0 ++ rest.0, record { value = low.0; rest = rest.0; may = low.1; spelled = refl; follows = rest.1 })

no_versions : AreVersions (0, 0)
unfolding are_above
no_versions = (omega arith, omega arith, refl)

pub some_behind_height : (leaf : Bool) → (tail : List ℕ) × BehindHeight leaf tail
some_behind_height leaf =
    let rest = some_behind_versions leaf in
    (versions_text (0, 0) ++ rest.0, record { value = (0, 0); rest = rest.0; may = no_versions; spelled = refl; follows = rest.1 })

pub some_behind_seq : (tail : List ℕ) × BehindSeq tail
some_behind_seq =
    let rest = some_behind_height true in
    (height_text 0 ++ rest.0, record { value = 0; rest = rest.0; may = omega arith; spelled = refl; follows = rest.1 })

pub some_page : (tail : List ℕ) × FromSeq tail
some_page =
    let rest = some_behind_seq in
    (eight 1 ++ rest.0, record { value = 1; rest = rest.0; may = (omega arith, omega arith); spelled = refl; follows = rest.1 })
