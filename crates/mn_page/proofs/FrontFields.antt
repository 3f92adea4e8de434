-- Fields in which bytes end: what makes them whole, or that nothing does.
use Rattle.std.proofs.Common.{◌≡◌, ℕ, zero, suc, ◌-◌, ◌<◌, ◌≤◌, Bool, true, false, ◌&&◌, ◌||◌, List, [], ◌∷◌, ◌++◌, length, take, drop, get_or, replicate, Option, refl, sym, ap, ◌∙◌, subst, arith, append_assoc, length-append, append-nil}
use Rattle.std.specs.Prelude.{nat_eq, nat_lt, IsTrue, ◌↔◌}
use Rattle.std.specs.List.{list_all}
use Rattle.std.specs.Int.{byte_at, from_be_bytes, w16}
use Rattle.std.proofs.lemmas.Bool.Decides.{nat_tests}
use Rattle.std.proofs.lemmas.List.{length-take-le, length-replicate, take-append-drop}
use Rattle.std.proofs.lemmas.Nat.{be_bytes_2}
use Rattle.byteorder.specs.Endian.{big_bytes}
use Rattle.mn_base.specs.declared.ids.Addr.{Addr}
use Rattle.mn_base.proofs.Booleans.{clash, left_true, right_true}
use Rattle.mn_page.specs.Grammar.{IsAddr, IsValue, addr_bytes, counted}
use Rattle.mn_page.specs.KeyRoom.{LeavesRoom}
use Rattle.mn_page.specs.Reading.{Begins, IsSeq, eight, height_text, kind_at}
use Rattle.mn_page.specs.PageFronts.{IsHeight, IsKeyIn, Judged, addr_goes_on, height_goes_on}
use Rattle.mn_page.proofs.KeyRoom.{filled_small}
use Rattle.mn_page.proofs.EntryFronts.{addr_is, number_of}
use Rattle.mn_page.proofs.KeyOrder.{below_byte}

-- Bytes at their end

pub none_first : (bytes : List ℕ) → ((b : ℕ) (more : List ℕ) → bytes ≡ b ∷ more → ⊥) → bytes ≡ []
none_first [] h = refl
none_first (b ∷ bs) h = absurd (h b bs refl)

pub begin_none : {X : Type 0} (Is : X → Type 0) (spelling : X → List ℕ) (bytes : List ℕ) → bytes ≡ [] → (x : X) → Is x → Judged Is spelling bytes true
begin_none Is spelling bytes e x is = (x, spelling x, is, sym (ap (λ (l : List ℕ). l ++ spelling x) e))

pub short_text : (n : ℕ) (bytes : List ℕ) → ((text more : List ℕ) → length text ≡ n → bytes ≡ text ++ more → ⊥) → length bytes < n
short_text n bytes none = by_order (nat_lt (length bytes) n) refl
  where
    less : (a b : ℕ) → nat_lt a b ≡ true → a < b
    less a b e = grind (arith, nat_tests)

    more : (a b : ℕ) → nat_lt a b ≡ false → b ≤ a
    more a b e = grind (arith, nat_tests)

    by_order : (t : Bool) → nat_lt (length bytes) n ≡ t → length bytes < n
    by_order true e = less (length bytes) n e
    by_order false e = absurd (none (take n bytes) (drop n bytes) (length-take-le n bytes (more (length bytes) n e)) (sym (take-append-drop n bytes)))

-- of two fronts of the same bytes the longer one begins with the other
pub front_of : (a x t m : List ℕ) → length a ≤ length x → a ++ t ≡ x ++ m → (r : List ℕ) × (x ≡ a ++ r)
front_of [] x t m l e = (x, refl)
front_of (b ∷ a) [] t m l e = absurd (omega arith)
front_of (b ∷ a) (y ∷ x) t m l e =
    let head : b ≡ y = cc in
    let tail : a ++ t ≡ x ++ m = cc in
    let r = front_of a x t m (omega arith) tail in
    (r.0, ap (λ (n : ℕ). n ∷ x) (sym head) ∙ ap (λ (l : List ℕ). b ∷ l) r.1)

small_rest : (bytes behind : List ℕ) (b : ℕ) → bytes ≡ b ∷ behind → list_all (λ x. nat_lt x 256) bytes ≡ true → list_all (λ x. nat_lt x 256) behind ≡ true
small_rest bytes behind b e s = right_true (nat_lt b 256) _ (subst (λ (l : List ℕ). list_all (λ x. nat_lt x 256) l ≡ true) e s)

-- Keys and values

-- with no key that leaves the room the bytes begin none
pub key_no : (shortest : ℕ) (least : List ℕ) (more : ℕ) (high : Option (List ℕ)) (size : ℕ) (front rest bytes : List ℕ) → bytes ≡ size ∷ (front ++ rest) → length front ≤ size
    → (LeavesRoom least front size more high → ⊥) → Judged (IsKeyIn shortest least more high) counted bytes false
key_no shortest least more high size front rest bytes e fits lacks = λ x tail behind is f.
    let all : size ∷ (front ++ (rest ++ tail)) ≡ length x ∷ (x ++ behind) = ap (λ (l : List ℕ). size ∷ l) (sym (append_assoc front rest tail)) ∙ (sym (ap (λ (l : List ℕ). l ++ tail) e) ∙ f) in
    let long : size ≡ length x = ap (λ (l : List ℕ). get_or l 0 0) all in
    let same : front ++ (rest ++ tail) ≡ x ++ behind = ap (drop 1) all in
    let r = front_of front x (rest ++ tail) behind (omega (arith, long, fits)) same in
    lacks (x, record { long = sym long; small = (is.0).2; begins = r; from = is.1 }, is.2)

-- a key of which the last bytes are not there yet
pub key_cut : (shortest : ℕ) (least : List ℕ) (more : ℕ) (high : Option (List ℕ)) (size : ℕ) (behind bytes : List ℕ) (goes : Bool) → bytes ≡ size ∷ behind → shortest ≤ size → size ≤ 32 → length behind < size
    → (IsTrue goes ↔ LeavesRoom least behind size more high) → Judged (IsKeyIn shortest least more high) counted bytes goes
key_cut shortest least more high size behind bytes true e low top short room =
    let found = room.0 refl in
    let k = found.0 in
    let is = found.1 in
    let long = is.long in
    let begins = is.begins in
    (k, begins.0, ((omega (arith, long, low), omega (arith, long, top), is.small), is.from, found.2), ap (λ (n : ℕ). n ∷ k) long ∙ (ap (λ (l : List ℕ). size ∷ l) begins.1 ∙ sym (ap (λ (l : List ℕ). l ++ begins.0) e)))
key_cut shortest least more high size behind bytes false e low top short room =
    key_no shortest least more high size behind [] bytes (e ∙ ap (λ (l : List ℕ). size ∷ l) (sym (append-nil behind))) (omega (arith, short)) (λ found. let yes = room.1 found in absurd cc)

pub key_whole : (shortest : ℕ) (least : List ℕ) (more : ℕ) (high : Option (List ℕ)) (size : ℕ) (front rest bytes : List ℕ) → bytes ≡ size ∷ (front ++ rest) → length front ≡ size → shortest ≤ size → size ≤ 32
    → LeavesRoom least front size more high → Begins (IsKeyIn shortest least more high) counted bytes front rest
key_whole shortest least more high size front rest bytes e long low top found =
    let k = found.0 in
    let is = found.1 in
    let same : k ≡ front = exact k front (is.begins).0 (is.begins).1 (is.long ∙ sym long) in
    record {
      may = subst (IsKeyIn shortest least more high) same ((omega (arith, is.long, low), omega (arith, is.long, top), is.small), is.from, found.2);
      spelled = e ∙ ap (λ (n : ℕ). n ∷ (front ++ rest)) (sym long);
    }
  where
    exact : (k f r : List ℕ) → k ≡ f ++ r → length k ≡ length f → k ≡ f
    exact k f [] e l = e ∙ append-nil f
    exact k f (b ∷ r) e l = let both = ap (λ (x : List ℕ). length x) e ∙ length-append f (b ∷ r) in absurd (omega (arith, both, l))

-- a value is filled with zeros
pub value_cut : (size : ℕ) (behind bytes : List ℕ) → bytes ≡ size ∷ behind → size ≤ 64 → length behind < size → list_all (λ b. nat_lt b 256) bytes ≡ true → Judged IsValue counted bytes true
value_cut size behind bytes e top short s =
    let zeros : List ℕ = replicate (size - length behind) 0 in
    let both = length-append behind zeros in
    let count : length {A = ℕ} zeros ≡ size - length behind = length-replicate (size - length behind) 0 in
    let long : length (behind ++ zeros) ≡ size = omega (arith, both, count, short) in
    (behind ++ zeros, zeros, (omega (arith, long, top), filled_small behind (size - length behind) (small_rest bytes behind size e s)), ap (λ (n : ℕ). n ∷ (behind ++ zeros)) long ∙ sym (ap (λ (l : List ℕ). l ++ zeros) e))

pub value_whole : (size : ℕ) (text rest bytes : List ℕ) → bytes ≡ size ∷ (text ++ rest) → length text ≡ size → size ≤ 64 → list_all (λ b. nat_lt b 256) text ≡ true → Begins IsValue counted bytes text rest
value_whole size text rest bytes e long top s = record { may = (omega (arith, long, top), s); spelled = e ∙ ap (λ (n : ℕ). n ∷ (text ++ rest)) (sym long) }

-- The sequence number

seq_of : (c0 c1 c2 c3 c4 c5 c6 : ℕ) → list_all (λ b. nat_lt b 256) (c0 ∷ c1 ∷ c2 ∷ c3 ∷ c4 ∷ c5 ∷ c6 ∷ 1 ∷ []) ≡ true
    → (n : ℕ) × IsSeq n × (eight n ≡ c0 ∷ c1 ∷ c2 ∷ c3 ∷ c4 ∷ c5 ∷ c6 ∷ 1 ∷ [])
unfolding eight
seq_of c0 c1 c2 c3 c4 c5 c6 s = let n = number_of c0 c1 c2 c3 c4 c5 c6 1 s in (n.0, (some n.0 n.2, n.1), n.2)
  where
    some : (n : ℕ) → big_bytes 8 n ≡ c0 ∷ c1 ∷ c2 ∷ c3 ∷ c4 ∷ c5 ∷ c6 ∷ 1 ∷ [] → 1 ≤ n
    some zero e = let one : 0 ≡ 1 = ap (λ (l : List ℕ). get_or l 7 0) e in absurd (omega (arith, one))
    some (suc n) e = omega arith

seq_cut : (bytes : List ℕ) → length bytes < 8 → list_all (λ b. nat_lt b 256) bytes ≡ true → Judged IsSeq eight bytes true
seq_cut [] l s = let n = seq_of 1 1 1 1 1 1 1 refl in (n.0, 1 ∷ 1 ∷ 1 ∷ 1 ∷ 1 ∷ 1 ∷ 1 ∷ 1 ∷ [], n.1, n.2)
seq_cut (a ∷ []) l s = let n = seq_of a 1 1 1 1 1 1 s in (n.0, 1 ∷ 1 ∷ 1 ∷ 1 ∷ 1 ∷ 1 ∷ 1 ∷ [], n.1, n.2)
seq_cut (a ∷ (b ∷ [])) l s = let n = seq_of a b 1 1 1 1 1 s in (n.0, 1 ∷ 1 ∷ 1 ∷ 1 ∷ 1 ∷ 1 ∷ [], n.1, n.2)
seq_cut (a ∷ (b ∷ (c ∷ []))) l s = let n = seq_of a b c 1 1 1 1 s in (n.0, 1 ∷ 1 ∷ 1 ∷ 1 ∷ 1 ∷ [], n.1, n.2)
seq_cut (a ∷ (b ∷ (c ∷ (d ∷ [])))) l s = let n = seq_of a b c d 1 1 1 s in (n.0, 1 ∷ 1 ∷ 1 ∷ 1 ∷ [], n.1, n.2)
seq_cut (a ∷ (b ∷ (c ∷ (d ∷ (e ∷ []))))) l s = let n = seq_of a b c d e 1 1 s in (n.0, 1 ∷ 1 ∷ 1 ∷ [], n.1, n.2)
seq_cut (a ∷ (b ∷ (c ∷ (d ∷ (e ∷ (f ∷ [])))))) l s = let n = seq_of a b c d e f 1 s in (n.0, 1 ∷ 1 ∷ [], n.1, n.2)
seq_cut (a ∷ (b ∷ (c ∷ (d ∷ (e ∷ (f ∷ (g ∷ []))))))) l s = let n = seq_of a b c d e f g s in (n.0, 1 ∷ [], n.1, n.2)
seq_cut (a ∷ (b ∷ (c ∷ (d ∷ (e ∷ (f ∷ (g ∷ (h ∷ more)))))))) l s = absurd (omega arith)

-- bytes that are long enough, but begin with none, begin none
pub long_none : {X : Type 0} (Is : X → Type 0) (spelling : X → List ℕ) (bytes : List ℕ) → ((x : X) → length (spelling x) ≤ length bytes) → ((x : X) (more : List ℕ) → Is x → bytes ≡ spelling x ++ more → ⊥) → Judged Is spelling bytes false
long_none Is spelling bytes long none = λ x tail more is e. let r = front_of (spelling x) bytes more tail (long x) (sym e) in none x r.0 is r.1

pub seq_judged : (bytes : List ℕ) → list_all (λ b. nat_lt b 256) bytes ≡ true → ((x : ℕ) (more : List ℕ) → IsSeq x → bytes ≡ eight x ++ more → ⊥) → Judged IsSeq eight bytes (nat_lt (length bytes) 8)
unfolding eight
seq_judged bytes s none = by_length (nat_lt (length bytes) 8) refl
  where
    less : (a : ℕ) → nat_lt a 8 ≡ true → a < 8
    less a e = grind (arith, nat_tests)

    more : (a : ℕ) → nat_lt a 8 ≡ false → 8 ≤ a
    more a e = grind (arith, nat_tests)

    by_length : (t : Bool) → nat_lt (length bytes) 8 ≡ t → Judged IsSeq eight bytes t
    by_length true e = seq_cut bytes (less (length bytes) e) s
    by_length false e = long_none IsSeq eight bytes (λ x. more (length bytes) e) none

-- The height

kind_small : (n : ℕ) → kind_at n ≡ 1 → n ≡ 0
kind_small n e = grind (arith, nat_tests)

kind_either : (n : ℕ) → (nat_eq (kind_at n) 1 || nat_eq (kind_at n) 2) ≡ true
kind_either n = grind (arith, nat_tests)

kind_two : (n : ℕ) → 1 ≤ n → kind_at n ≡ 2
kind_two n h = grind (arith, nat_tests)

pub is_at : (n m : ℕ) → nat_eq n m ≡ true → n ≡ m
is_at n m e = grind (arith, nat_tests)

height_two : (a : ℕ) → a < 256 → (n : ℕ) × IsHeight n × (height_text n ≡ 2 ∷ a ∷ 1 ∷ [])
height_two a h =
    let bs : List ℕ = a ∷ 1 ∷ [] in
    let n = from_be_bytes w16 bs in
    (n, omega arith, ap (λ (k : ℕ). k ∷ big_bytes 2 n) (kind_two n (omega arith)) ∙ ap (λ (l : List ℕ). 2 ∷ l) (be_bytes_2 bs n refl (two a 1 h (omega arith)) refl))
  where
    two : (a b : ℕ) → a < 256 → b < 256 → (i : ℕ) → get_or (a ∷ b ∷ []) i 0 < 256
    two a b p q zero = p
    two a b p q (suc zero) = q
    two a b p q (suc (suc i)) = omega arith

pub height_judged : (bytes : List ℕ) → list_all (λ b. nat_lt b 256) bytes ≡ true → ((x : ℕ) (more : List ℕ) → IsHeight x → bytes ≡ height_text x ++ more → ⊥) → Judged IsHeight height_text bytes (height_goes_on bytes)
height_judged [] s none = (0, 1 ∷ 0 ∷ 0 ∷ [], omega arith, refl)
height_judged (k ∷ []) s none = by_kind (nat_eq k 1) (nat_eq k 2) refl refl
  where
    by_kind : (t u : Bool) → nat_eq k 1 ≡ t → nat_eq k 2 ≡ u → Judged IsHeight height_text (k ∷ []) (t || u)
    by_kind true u e f = (0, 0 ∷ 0 ∷ [], omega arith, ap (λ (n : ℕ). n ∷ 0 ∷ 0 ∷ []) (sym (is_at k 1 e)))
    by_kind false true e f = (1, 0 ∷ 1 ∷ [], omega arith, ap (λ (n : ℕ). n ∷ 0 ∷ 1 ∷ []) (sym (is_at k 2 f)))
    by_kind false false e f = λ x tail more is g.
        let kind : k ≡ kind_at x = ap (λ (l : List ℕ). get_or l 0 0) g in
        clash (nat_eq k 1 || nat_eq k 2) (ap (λ (n : ℕ). nat_eq n 1 || nat_eq n 2) kind ∙ kind_either x) (ap (λ (t : Bool). t || nat_eq k 2) e ∙ f)
height_judged (k ∷ (a ∷ [])) s none = by_kind (nat_eq k 2) (nat_eq k 1) (nat_eq a 0) refl refl refl
  where
    by_kind : (t u v : Bool) → nat_eq k 2 ≡ t → nat_eq k 1 ≡ u → nat_eq a 0 ≡ v → Judged IsHeight height_text (k ∷ (a ∷ [])) (t || (u && v))
    by_kind true u v e f g =
        let n = height_two a (below_byte a (left_true (nat_lt a 256) _ (right_true (nat_lt k 256) _ s))) in
        (n.0, 1 ∷ [], n.1, n.2 ∙ ap (λ (m : ℕ). m ∷ a ∷ 1 ∷ []) (sym (is_at k 2 e)))
    by_kind false true true e f g =
        (0, 0 ∷ [], omega arith, ap (λ (n : ℕ). n ∷ 0 ∷ 0 ∷ []) (sym (is_at k 1 f)) ∙ ap (λ (n : ℕ). k ∷ n ∷ 0 ∷ []) (sym (is_at a 0 g)))
    by_kind false true false e f g = λ x tail more is h.
        let kind : k ≡ kind_at x = ap (λ (l : List ℕ). get_or l 0 0) h in
        let none : x ≡ 0 = kind_small x (sym kind ∙ is_at k 1 f) in
        let byte : a ≡ byte_at 1 x = ap (λ (l : List ℕ). get_or l 1 0) h in
        clash (nat_eq a 0) (ap (λ (n : ℕ). nat_eq n 0) (byte ∙ ap (byte_at 1) none)) g
    by_kind false false v e f g = λ x tail more is h.
        let kind : k ≡ kind_at x = ap (λ (l : List ℕ). get_or l 0 0) h in
        clash (nat_eq k 1 || nat_eq k 2) (ap (λ (n : ℕ). nat_eq n 1 || nat_eq n 2) kind ∙ kind_either x) (ap (λ (t : Bool). t || nat_eq k 2) f ∙ e)
height_judged (k ∷ (a ∷ (b ∷ more))) s none = long_none IsHeight height_text (k ∷ (a ∷ (b ∷ more))) (λ x. omega arith) none

-- Addresses

pub addr_judged : (bytes : List ℕ) → list_all (λ b. nat_lt b 256) bytes ≡ true → ((x : Addr) (more : List ℕ) → IsAddr x → bytes ≡ addr_bytes x ++ more → ⊥) → Judged IsAddr addr_bytes bytes (addr_goes_on bytes)
addr_judged [] s none = let found = addr_is 0 0 0 refl refl (omega arith) in (found.0, 0 ∷ 0 ∷ 0 ∷ [], found.1, found.2)
addr_judged (n ∷ []) s none = by_node (nat_lt n 8) refl
  where
    lt : (m : ℕ) → m < 8 → nat_lt m 8 ≡ true
    lt m h = grind (arith, nat_tests)

    by_node : (t : Bool) → nat_lt n 8 ≡ t → Judged IsAddr addr_bytes (n ∷ []) t
    by_node true e = let found = addr_is n 0 0 e refl (omega arith) in (found.0, 0 ∷ 0 ∷ [], found.1, found.2)
    by_node false e = λ x tail more is h.
        let node : n ≡ x.node.0 = ap (λ (l : List ℕ). get_or l 0 0) h in
        clash (nat_lt n 8) (ap (λ (m : ℕ). nat_lt m 8) node ∙ lt x.node.0 is.0) e
addr_judged (n ∷ (s ∷ [])) small none = by_both (nat_lt n 8) (nat_lt s 16) refl refl
  where
    lt : (m : ℕ) → m < 8 → nat_lt m 8 ≡ true
    lt m h = grind (arith, nat_tests)

    lt16 : (m : ℕ) → m < 16 → nat_lt m 16 ≡ true
    lt16 m h = grind (arith, nat_tests)

    by_both : (t u : Bool) → nat_lt n 8 ≡ t → nat_lt s 16 ≡ u → Judged IsAddr addr_bytes (n ∷ (s ∷ [])) (t && u)
    by_both true true e f = let found = addr_is n s 0 e f (omega arith) in (found.0, 0 ∷ [], found.1, found.2)
    by_both true false e f = λ x tail more is h.
        let slot : s ≡ byte_at 1 x.slot = ap (λ (l : List ℕ). get_or l 1 0) h in
        clash (nat_lt s 16) (ap (λ (m : ℕ). nat_lt m 16) slot ∙ lt16 (byte_at 1 x.slot) (let top = is.1 in omega (arith, top))) f
    by_both false u e f = λ x tail more is h.
        let node : n ≡ x.node.0 = ap (λ (l : List ℕ). get_or l 0 0) h in
        clash (nat_lt n 8) (ap (λ (m : ℕ). nat_lt m 8) node ∙ lt x.node.0 is.0) e
addr_judged (n ∷ (s ∷ (low ∷ more))) small none = long_none IsAddr addr_bytes (n ∷ (s ∷ (low ∷ more))) (λ x. omega arith) none
