-- The bodies of pages are those that are read key by key.
use Rattle.std.proofs.Common.{◌≡◌, ℕ, zero, suc, ◌+◌, ◌<◌, ◌≤◌, ◌^◌, Bool, true, false, List, [], ◌∷◌, ◌++◌, length, Option, None, refl, sym, ap, ◌∙◌, subst, arith, append_assoc}
use Rattle.std.specs.Prelude.{IsTrue, nat_eq, ⊤}
use Rattle.std.specs.List.{AllByRecursion, flat_map}
use Rattle.std.proofs.lemmas.Bool.Decides.{nat_tests}
use Rattle.mn_base.specs.Order.{below_bound, key_le, key_lt}
use Rattle.mn_base.specs.Store.{is_ascending}
use Rattle.mn_base.specs.declared.reply.Pair.{Pair}
use Rattle.mn_base.proofs.Keys.{key_lt-trans}
use Rattle.mn_base.proofs.Booleans.{both_true, left_true, right_true}
use Rattle.mn_page.specs.declared.page.Body.{Body}
use Rattle.mn_page.specs.declared.page.Body.TheVariants.{Leaf, Inner}
use Rattle.mn_page.specs.declared.page.Child.{Child}
use Rattle.mn_page.specs.Grammar.{IsBody, addr_bytes, are_ascending, child_bytes, counted, height_of, pair_bytes}
use Rattle.mn_page.specs.KeyRoom.{HasRoomForKeys}
use Rattle.mn_page.specs.Reading.{IsBodyAt, IsChildWithin, IsPairWithin, body_text}
use Rattle.mn_page.specs.PageFronts.{AreZeros, BehindFences, HasKeys, Items, Over, least_keys}
use Rattle.mn_page.proofs.KeyOrder.{at_most_all, below_is_at_most, lt_below}
use Rattle.mn_page.proofs.KeyRoom.{at_most_le, le_at_most, room_lower}

-- keys above a key leave it below the bound
pub room_below : (n : ℕ) (key : List ℕ) (high : Option (List ℕ)) → HasRoomForKeys key n high → below_bound key high ≡ true
room_below zero key high room = room
room_below (suc n) key high room = room_lower zero high key room.0 (below_is_at_most key room.0 (lt_below key room.0 room.2)) (room_below n room.0 high room.3)

le_lt : (a b c : List ℕ) → key_le a b ≡ true → key_lt b c ≡ true → key_le a c ≡ true
le_lt a b c p q = at_most_le a c (at_most_all a b c (le_at_most a b p) (below_is_at_most b c (lt_below b c q)))

-- Pairs

abbrev PairsOver : Bool → List ℕ → List Pair → Type 0
PairsOver from base [] = ⊤
PairsOver from base (p ∷ ps) = Over from base p.key

pairs_rest : (p : Pair) (ps : List Pair) → is_ascending (p ∷ ps) ≡ true → PairsOver false p.key ps × (is_ascending ps ≡ true)
pairs_rest p [] e = (tt, refl)
pairs_rest p (q ∷ ps) e = (left_true (key_lt p.key q.key) (is_ascending (q ∷ ps)) e, right_true (key_lt p.key q.key) (is_ascending (q ∷ ps)) e)

pairs_with : (p : Pair) (ps : List Pair) → PairsOver false p.key ps → is_ascending ps ≡ true → is_ascending (p ∷ ps) ≡ true
pairs_with p [] over e = refl
pairs_with p (q ∷ ps) over e = both_true (key_lt p.key q.key) (is_ascending (q ∷ ps)) over e

pairs_room : (low : List ℕ) (high : Option (List ℕ)) (p : Pair) (ps : List Pair) → is_ascending (p ∷ ps) ≡ true → AllByRecursion (IsPairWithin low high) (p ∷ ps) → HasRoomForKeys p.key (length ps) high
pairs_room low high p [] e all = right_true (key_le low p.key) (below_bound p.key high) (all.0).2
pairs_room low high p (q ∷ ps) e all =
    let rest = pairs_rest p (q ∷ ps) e in
    (q.key, ((all.1).0).0, rest.0, pairs_room low high q ps rest.1 all.1)

pairs_out : (low : List ℕ) (high : Option (List ℕ)) (zs : List ℕ) → AreZeros zs → (ps : List Pair) (from : Bool) (base : List ℕ) → PairsOver from base ps → is_ascending ps ≡ true → AllByRecursion (IsPairWithin low high) ps
    → Items true from base high (length ps) (flat_map pair_bytes ps ++ zs)
pairs_out low high zs zeros [] from base over e all = zeros
pairs_out low high zs zeros (p ∷ ps) from base over e all =
    let rest = pairs_rest p ps e in
    record {
      value = p.key;
      rest = counted p.value ++ (flat_map pair_bytes ps ++ zs);
      may = ((all.0).0, over, pairs_room low high p ps e all);
      spelled = append_assoc (pair_bytes p) (flat_map pair_bytes ps) zs ∙ append_assoc (counted p.key) (counted p.value) (flat_map pair_bytes ps ++ zs);
      follows = record {
        value = counted p.value;
        rest = flat_map pair_bytes ps ++ zs;
        may = (p.value, (all.0).1, refl);
        spelled = refl;
        follows = pairs_out low high zs zeros ps false p.key rest.0 rest.1 all.1;
      };
    }

record PairsIn (low : List ℕ) (high : Option (List ℕ)) (from : Bool) (base : List ℕ) (n : ℕ) (text : List ℕ) : Type 0 where
  pub pairs : List Pair
  pub zeros : List ℕ
  pub many : length pairs ≡ n
  pub over : PairsOver from base pairs
  pub ascending : is_ascending pairs ≡ true
  pub all : AllByRecursion (IsPairWithin low high) pairs
  pub spelled : text ≡ flat_map pair_bytes pairs ++ zeros
  pub are : AreZeros zeros

pairs_in : (low : List ℕ) (high : Option (List ℕ)) (n : ℕ) (from : Bool) (base text : List ℕ) → ((k : List ℕ) → Over from base k → key_le low k ≡ true) → Items true from base high n text → PairsIn low high from base n text
pairs_in low high zero from base text within i = record { pairs = []; zeros = text; many = refl; over = tt; ascending = refl; all = tt; spelled = refl; are = i }
pairs_in low high (suc n) from base text within i =
    let key = i.value in
    let is = i.may in
    let held = i.follows in
    let value = held.may in
    let le = within key is.1 in
    let rest = pairs_in low high n false key held.rest (λ k up. le_lt low key k le up) held.follows in
    let p : Pair = record { key = key; value = value.0 } in
    record {
      pairs = p ∷ rest.pairs;
      zeros = rest.zeros;
      many = ap suc rest.many;
      over = is.1;
      ascending = pairs_with p rest.pairs rest.over rest.ascending;
      all = ((is.0, value.1, both_true (key_le low key) (below_bound key high) le (room_below n key high is.2)), rest.all);
      spelled = i.spelled ∙ (ap (λ (l : List ℕ). counted key ++ l) (held.spelled ∙ (ap (λ (l : List ℕ). l ++ held.rest) value.2 ∙ ap (λ (l : List ℕ). counted value.0 ++ l) rest.spelled))
          ∙ (sym (append_assoc (counted key) (counted value.0) (flat_map pair_bytes rest.pairs ++ rest.zeros)) ∙ sym (append_assoc (pair_bytes p) (flat_map pair_bytes rest.pairs) rest.zeros)));
      are = rest.are;
    }

-- Children

abbrev ChildrenOver : List ℕ → List Child → Type 0
ChildrenOver base [] = ⊤
ChildrenOver base (c ∷ cs) = IsTrue (key_lt base c.separator)

children_rest : (c : Child) (cs : List Child) → are_ascending (c ∷ cs) ≡ true → ChildrenOver c.separator cs × (are_ascending cs ≡ true)
children_rest c [] e = (tt, refl)
children_rest c (d ∷ cs) e = (left_true (key_lt c.separator d.separator) (are_ascending (d ∷ cs)) e, right_true (key_lt c.separator d.separator) (are_ascending (d ∷ cs)) e)

children_with : (c : Child) (cs : List Child) → ChildrenOver c.separator cs → are_ascending cs ≡ true → are_ascending (c ∷ cs) ≡ true
children_with c [] over e = refl
children_with c (d ∷ cs) over e = both_true (key_lt c.separator d.separator) (are_ascending (d ∷ cs)) over e

children_room : (low : List ℕ) (high : Option (List ℕ)) (c : Child) (cs : List Child) → are_ascending (c ∷ cs) ≡ true → AllByRecursion (IsChildWithin low high) (c ∷ cs) → HasRoomForKeys c.separator (length cs) high
children_room low high c [] e all = (all.0).3
children_room low high c (d ∷ cs) e all =
    let rest = children_rest c (d ∷ cs) e in
    (d.separator, ((all.1).0).0, rest.0, children_room low high d cs rest.1 all.1)

children_out : (low : List ℕ) (high : Option (List ℕ)) (zs : List ℕ) → AreZeros zs → (cs : List Child) (base : List ℕ) → ChildrenOver base cs → are_ascending cs ≡ true → AllByRecursion (IsChildWithin low high) cs
    → Items false false base high (length cs) (flat_map child_bytes cs ++ zs)
children_out low high zs zeros [] base over e all = zeros
children_out low high zs zeros (c ∷ cs) base over e all =
    let rest = children_rest c cs e in
    record {
      value = c.separator;
      rest = addr_bytes c.addr ++ (flat_map child_bytes cs ++ zs);
      may = ((all.0).0, over, children_room low high c cs e all);
      spelled = append_assoc (child_bytes c) (flat_map child_bytes cs) zs ∙ append_assoc (counted c.separator) (addr_bytes c.addr) (flat_map child_bytes cs ++ zs);
      follows = record {
        value = addr_bytes c.addr;
        rest = flat_map child_bytes cs ++ zs;
        may = (c.addr, (all.0).1, refl);
        spelled = refl;
        follows = children_out low high zs zeros cs c.separator rest.0 rest.1 all.1;
      };
    }

record ChildrenIn (low : List ℕ) (high : Option (List ℕ)) (base : List ℕ) (n : ℕ) (text : List ℕ) : Type 0 where
  pub children : List Child
  pub zeros : List ℕ
  pub many : length children ≡ n
  pub over : ChildrenOver base children
  pub ascending : are_ascending children ≡ true
  pub all : AllByRecursion (IsChildWithin low high) children
  pub spelled : text ≡ flat_map child_bytes children ++ zeros
  pub are : AreZeros zeros

children_in : (low : List ℕ) (high : Option (List ℕ)) (n : ℕ) (base text : List ℕ) → ((k : List ℕ) → key_lt base k ≡ true → key_lt low k ≡ true) → Items false false base high n text → ChildrenIn low high base n text
children_in low high zero base text within i = record { children = []; zeros = text; many = refl; over = tt; ascending = refl; all = tt; spelled = refl; are = i }
children_in low high (suc n) base text within i =
    let key = i.value in
    let is = i.may in
    let held = i.follows in
    let addr = held.may in
    let up = within key is.1 in
    let rest = children_in low high n key held.rest (λ k more. key_lt-trans low key k up more) held.follows in
    let c : Child = record { separator = key; addr = addr.0 } in
    record {
      children = c ∷ rest.children;
      zeros = rest.zeros;
      many = ap suc rest.many;
      over = is.1;
      ascending = children_with c rest.children rest.over rest.ascending;
      all = ((is.0, addr.1, up, room_below n key high is.2), rest.all);
      spelled = i.spelled ∙ (ap (λ (l : List ℕ). counted key ++ l) (held.spelled ∙ (ap (λ (l : List ℕ). l ++ held.rest) addr.2 ∙ ap (λ (l : List ℕ). addr_bytes addr.0 ++ l) rest.spelled))
          ∙ (sym (append_assoc (counted key) (addr_bytes addr.0) (flat_map child_bytes rest.children ++ rest.zeros)) ∙ sym (append_assoc (child_bytes c) (flat_map child_bytes rest.children) rest.zeros)));
      are = rest.are;
    }

-- Bodies

pub record BodyOut (leaf : Bool) (low : List ℕ) (high : Option (List ℕ)) (text : List ℕ) : Type 0 where
  pub room : HasRoomForKeys low (least_keys leaf) high
  pub open_room : HasRoomForKeys low (least_keys leaf) None
  pub follows : BehindFences leaf low high text

pairs_keys : (low : List ℕ) (high : Option (List ℕ)) (ps : List Pair) → is_ascending ps ≡ true → AllByRecursion (IsPairWithin low high) ps → HasKeys true low (length ps) high × PairsOver true low ps
pairs_keys low high [] e all = (tt, tt)
pairs_keys low high (p ∷ ps) e all = let le = left_true (key_le low p.key) (below_bound p.key high) (all.0).2 in ((p.key, (all.0).0, le, pairs_room low high p ps e all), le)

children_keys : (low : List ℕ) (high : Option (List ℕ)) (cs : List Child) → are_ascending cs ≡ true → AllByRecursion (IsChildWithin low high) cs → HasKeys false low (length cs) high × ChildrenOver low cs
children_keys low high [] e all = (tt, tt)
children_keys low high (c ∷ cs) e all = ((c.separator, (all.0).0, (all.0).2, children_room low high c cs e all), (all.0).2)

first_child : (low : List ℕ) (high : Option (List ℕ)) (cs : List Child) → 1 ≤ length cs → AllByRecursion (IsChildWithin low high) cs → HasRoomForKeys low 1 high × HasRoomForKeys low 1 None
first_child low high [] some all = absurd (omega (arith, some))
first_child low high (c ∷ cs) some all = ((c.separator, (all.0).0, (all.0).2, (all.0).3), (c.separator, (all.0).0, (all.0).2, refl))

pub not_flat : (n : ℕ) → 1 ≤ n → nat_eq n 0 ≡ false
not_flat n h = grind (arith, nat_tests)

pub body_out : (low : List ℕ) (high : Option (List ℕ)) (body : Body) (zs : List ℕ) → IsBody low high body → below_bound low high ≡ true → AreZeros zs → BodyOut (nat_eq (height_of body) 0) low high (body_text body ++ zs)
body_out low high (Leaf ps) zs is fences zeros =
    let keys = pairs_keys low high ps is.1 is.2 in
    record {
      room = fences;
      open_room = refl;
      follows = record { value = length ps; rest = flat_map pair_bytes ps ++ zs; may = (is.0, keys.0); spelled = refl; follows = pairs_out low high zs zeros ps true low keys.1 is.1 is.2 };
    }
body_out low high (Inner height first cs) zs is fences zeros =
    let keys = children_keys low high cs is.5 is.6 in
    let room = first_child low high cs is.2 is.6 in
    subst (λ (l : Bool). BodyOut l low high (body_text (Inner height first cs) ++ zs)) (sym (not_flat height is.0)) (record {
      room = room.0;
      open_room = room.1;
      follows = record {
        value = length cs;
        rest = addr_bytes first ++ (flat_map child_bytes cs ++ zs);
        may = (is.2, is.3, keys.0);
        spelled = ap (λ (l : List ℕ). (length cs + 1) ∷ l) (append_assoc (addr_bytes first) (flat_map child_bytes cs) zs);
        follows = record { value = first; rest = flat_map child_bytes cs ++ zs; may = is.4; spelled = refl; follows = children_out low high zs zeros cs low keys.1 is.5 is.6 };
      };
    })

pub record BodyIn (height : ℕ) (low : List ℕ) (high : Option (List ℕ)) (text : List ℕ) : Type 0 where
  pub body : Body
  pub zeros : List ℕ
  pub is : IsBodyAt height low high body
  pub spelled : text ≡ body_text body ++ zeros
  pub are : AreZeros zeros

pub is_flat : (n : ℕ) → nat_eq n 0 ≡ true → n ≡ 0
is_flat n e = grind (arith, nat_tests)

pub is_up : (n : ℕ) → nat_eq n 0 ≡ false → 1 ≤ n
is_up n e = grind (arith, nat_tests)

pub body_in : (leaf : Bool) (height : ℕ) (low : List ℕ) (high : Option (List ℕ)) (text : List ℕ) → nat_eq height 0 ≡ leaf → height < 2 ^ 16 → BehindFences leaf low high text → BodyIn height low high text
body_in true height low high text e top f =
    let is = f.may in
    let items = pairs_in low high f.value true low f.rest (λ k le. le) f.follows in
    let many = items.many in
    record {
      body = Leaf items.pairs;
      zeros = items.zeros;
      is = (is_flat height e, (omega (arith, is.0, many), items.ascending, items.all));
      spelled = f.spelled ∙ (ap (λ (n : ℕ). n ∷ f.rest) (sym items.many) ∙ ap (λ (l : List ℕ). length items.pairs ∷ l) items.spelled);
      are = items.are;
    }
body_in false height low high text e top f =
    let is = f.may in
    let addr = f.follows in
    let items = children_in low high f.value low addr.rest (λ k up. up) addr.follows in
    let many = items.many in
    let spelled : f.rest ≡ (addr_bytes addr.value ++ flat_map child_bytes items.children) ++ items.zeros =
    addr.spelled ∙ (ap (λ (l : List ℕ). addr_bytes addr.value ++ l) items.spelled ∙ sym (append_assoc (addr_bytes addr.value) (flat_map child_bytes items.children) items.zeros)) in
    record {
      body = Inner height addr.value items.children;
      zeros = items.zeros;
      is = (refl, (is_up height e, top, omega (arith, is.0, many), omega (arith, is.1, many), addr.may, items.ascending, items.all));
      spelled = f.spelled ∙ (ap (λ (n : ℕ). (n + 1) ∷ f.rest) (sym items.many) ∙ ap (λ (l : List ℕ). (length items.children + 1) ∷ l) spelled);
      are = items.are;
    }
