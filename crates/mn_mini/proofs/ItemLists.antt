-- Items read one after the other.
use Rattle.std.proofs.Common.{◌≡◌, ◌<◌, ◌+◌, ◌-◌, ℕ, suc, List, [], ◌∷◌, ◌++◌, length, refl, ap, sym, ◌∙◌, arith, append_assoc, append-nil, subst}
use Rattle.std.specs.Prelude.{nat_le}
use Rattle.std.specs.List.{flat_map, AllByRecursion}
use Rattle.std.proofs.lemmas.Bool.{and_parts, and_from, leb-true, le-leb}
use Rattle.std.proofs.lemmas.Grind.{flat_map-append}
use Rattle.mn_base.specs.declared.ids.Range.{Range}
use Rattle.mn_mini.specs.declared.part.PartItem.{PartItem}
use Rattle.mn_mini.specs.declared.part.PartItem.TheVariants.{Compare, Read, Write}
use Rattle.mn_mini.specs.Mini.{range_of}
use Rattle.mn_mini.specs.RecordGrammar.{kind_of, data_of, item_bytes, range_bytes, are_in_order, IsPartItem, IsItemFrom, AreItems, Begins, NoneBegins}
use Rattle.mn_mini.proofs.RecordGrammar.{cut, range_once, item_parts}

-- items of one kind, range and data, and what is behind
alike : (x y : PartItem) (a b : List ℕ) → kind_of x ≡ kind_of y → range_of x ≡ range_of y → data_of x ++ a ≡ data_of y ++ b → (x ≡ y) × (a ≡ b)
alike (Compare start bytes) (Compare start2 bytes2) a b k r d =
    let both = cut bytes bytes2 a b (ap (λ (range : Range). range.length) r) d in
    (ap (λ (n : ℕ). Compare n bytes) (ap (λ (range : Range). range.start) r) ∙ ap (λ (l : List ℕ). Compare start2 l) both.0, both.1)
alike (Read start size) (Read start2 size2) a b k r d =
    (ap (λ (n : ℕ). Read n size) (ap (λ (range : Range). range.start) r) ∙ ap (λ (n : ℕ). Read start2 n) (ap (λ (range : Range). range.length) r), d)
alike (Write start bytes) (Write start2 bytes2) a b k r d =
    let both = cut bytes bytes2 a b (ap (λ (range : Range). range.length) r) d in
    (ap (λ (n : ℕ). Write n bytes) (ap (λ (range : Range). range.start) r) ∙ ap (λ (l : List ℕ). Write start2 l) both.0, both.1)
alike (Compare start bytes) (Read start2 size2) a b k r d = absurd (omega (arith, k))
alike (Compare start bytes) (Write start2 bytes2) a b k r d = absurd (omega (arith, k))
alike (Read start size) (Compare start2 bytes2) a b k r d = absurd (omega (arith, k))
alike (Read start size) (Write start2 bytes2) a b k r d = absurd (omega (arith, k))
alike (Write start bytes) (Compare start2 bytes2) a b k r d = absurd (omega (arith, k))
alike (Write start bytes) (Read start2 size2) a b k r d = absurd (omega (arith, k))

-- two items whose spellings begin the same bytes are one
pub item_once : (x y : PartItem) (a b : List ℕ) → IsPartItem x → IsPartItem y → item_bytes x ++ a ≡ item_bytes y ++ b → (x ≡ y) × (a ≡ b)
item_once x y a b is_x is_y same =
    let parts = item_parts (kind_of x) ((range_bytes (range_of x) ++ data_of x) ++ a) b y same in
    let ranges = range_once (range_of x) (range_of y) (data_of x ++ a) (data_of y ++ b) is_x is_y (sym (append_assoc (range_bytes (range_of x)) (data_of x) a) ∙ parts.1) in
    alike x y a b parts.0 ranges.0 ranges.1

-- items that are left to be read
pub record Left (n kind : ℕ) (rest more : List ℕ) : Type 0 where
  pub items : List PartItem
  pub begins : Begins (AreItems n kind) (flat_map item_bytes) rest items more

-- so many of the items are read: whatever may follow them completes them, and whatever the bytes
-- begin with goes on in what is left
pub record Progress (bytes : List ℕ) (count read kind : ℕ) (items : List PartItem) (rest : List ℕ) : Type 0 where
  pub spelled : bytes ≡ flat_map item_bytes items ++ rest
  pub completes : (n : ℕ) (tail : List PartItem) → n + read ≡ count → AreItems n kind tail → AreItems count 1 (items ++ tail)
  pub goes_on : (n : ℕ) (whole : List PartItem) (more : List ℕ) → n + read ≡ count → Begins (AreItems count 1) (flat_map item_bytes) bytes whole more → Left n kind rest more

pub progress_none : (bytes : List ℕ) (count : ℕ) → Progress bytes count 0 1 [] bytes
progress_none bytes count = record {
  spelled = refl;
  completes = λ n tail e are. let same : n ≡ count = omega arith in subst (λ (k : ℕ). AreItems k 1 tail) same are;
  goes_on = λ n whole more e b. let same : count ≡ n = omega arith in record { items = whole; begins = subst (λ (k : ℕ). Begins (AreItems k 1) (flat_map item_bytes) bytes whole more) same b };
}

-- the first of the items that are left
pub record NextItem (n kind : ℕ) (rest more : List ℕ) : Type 0 where
  pub item : PartItem
  pub items : List PartItem
  pub first : Begins (IsItemFrom kind) item_bytes rest item (flat_map item_bytes items ++ more)
  pub others : AreItems n (kind_of item) items

pub next_item : (n kind : ℕ) (rest more : List ℕ) → Left (suc n) kind rest more → NextItem n kind rest more
next_item n kind rest more left = of left.items left.begins
  where
    of : (items : List PartItem) → Begins (AreItems (suc n) kind) (flat_map item_bytes) rest items more → NextItem n kind rest more
    of [] b = absurd (omega (arith, b.may.count_is))
    of (item ∷ items) b =
        let order = and_parts (nat_le kind (kind_of item)) (are_in_order (kind_of item) items) b.may.order in
        record {
          item = item;
          items = items;
          first = record { may = (b.may.inside.0, leb-true kind (kind_of item) order.0); spelled = b.spelled ∙ append_assoc (item_bytes item) (flat_map item_bytes items) more };
          others = record { count_is = omega (arith, b.may.count_is); order = order.1; inside = b.may.inside.1 };
        }

pub progress_more : (bytes : List ℕ) (count read kind : ℕ) (items : List PartItem) (rest : List ℕ) (item : PartItem) (behind : List ℕ) → Progress bytes count read kind items rest → read < count
    → Begins (IsItemFrom kind) item_bytes rest item behind → Progress bytes count (read + 1) (kind_of item) (items ++ item ∷ []) behind
progress_more bytes count read kind items rest item behind p less b = record {
  spelled = p.spelled ∙ ap (λ (l : List ℕ). flat_map item_bytes items ++ l) b.spelled ∙ sym (append_assoc (flat_map item_bytes items) (item_bytes item) behind)
      ∙ ap (λ (l : List ℕ). (flat_map item_bytes items ++ l) ++ behind) (sym (append-nil (item_bytes item))) ∙ ap (λ (l : List ℕ). l ++ behind) (sym (flat_map-append item_bytes items (item ∷ [])));
  completes = λ n tail e are. subst (λ (l : List PartItem). AreItems count 1 l) (sym (append_assoc items (item ∷ []) tail)) (p.completes (suc n) (item ∷ tail) (omega (arith, e)) (grown n tail are));
  goes_on = λ n whole more e w. on n more (next_item n kind rest more (p.goes_on (suc n) whole more (omega (arith, e)) w));
}
  where
    grown : (n : ℕ) (tail : List PartItem) → AreItems n (kind_of item) tail → AreItems (suc n) kind (item ∷ tail)
    grown n tail are = record {
      count_is = ap (λ (k : ℕ). suc k) are.count_is;
      order = and_from (nat_le kind (kind_of item)) (are_in_order (kind_of item) tail) (le-leb kind (kind_of item) b.may.1) are.order;
      inside = (b.may.0, are.inside);
    }

    on : (n : ℕ) (more : List ℕ) → NextItem n kind rest more → Left n (kind_of item) behind more
    on n more next =
        let once = item_once item next.item behind (flat_map item_bytes next.items ++ more) b.may.0 next.first.may.0 (sym b.spelled ∙ next.first.spelled) in
        record {
          items = next.items;
          begins = record { may = subst (λ (i : PartItem). AreItems n (kind_of i) next.items) (sym once.0) next.others; spelled = once.1 };
        }

-- all of them are read
pub progress_all : (bytes : List ℕ) (count kind : ℕ) (items : List PartItem) (rest : List ℕ) → Progress bytes count count kind items rest → Begins (AreItems count 1) (flat_map item_bytes) bytes items rest
progress_all bytes count kind items rest p = record {
  may = subst (λ (l : List PartItem). AreItems count 1 l) (append-nil items) (p.completes 0 [] (omega arith) (record { count_is = refl; order = refl; inside = tt }));
  spelled = p.spelled;
}

-- where no item follows and some are left, the bytes begin with no such items
pub progress_ends : (bytes : List ℕ) (count read kind : ℕ) (items : List PartItem) (rest : List ℕ) → Progress bytes count read kind items rest → read < count
    → NoneBegins (IsItemFrom kind) item_bytes rest → NoneBegins (AreItems count 1) (flat_map item_bytes) bytes
progress_ends bytes count read kind items rest p less none = λ whole more w. ends more (next_item (count - (read + 1)) kind rest more (p.goes_on (suc (count - (read + 1))) whole more (omega arith) w))
  where
    ends : (more : List ℕ) → NextItem (count - (read + 1)) kind rest more → ⊥
    ends more next = none next.item (flat_map item_bytes next.items ++ more) next.first

pub counted_all : (bytes : List ℕ) (count read kind : ℕ) (items : List PartItem) (rest : List ℕ) → read ≡ count → Progress bytes count read kind items rest → Begins (AreItems count 1) (flat_map item_bytes) bytes items rest
counted_all bytes count read kind items rest e p = progress_all bytes count kind items rest (subst (λ (n : ℕ). Progress bytes count n kind items rest) e p)

-- as many items whose spellings begin the same bytes are the same
pub items_once : (xs ys : List PartItem) (a b : List ℕ) → length xs ≡ length ys → AllByRecursion IsPartItem xs → AllByRecursion IsPartItem ys → flat_map item_bytes xs ++ a ≡ flat_map item_bytes ys ++ b → (xs ≡ ys) × (a ≡ b)
items_once [] [] a b n p q e = (refl, e)
items_once [] (y ∷ ys) a b n p q e = absurd (omega (arith, n))
items_once (x ∷ xs) [] a b n p q e = absurd (omega (arith, n))
items_once (x ∷ xs) (y ∷ ys) a b n p q e =
    let first = item_once x y (flat_map item_bytes xs ++ a) (flat_map item_bytes ys ++ b) p.0 q.0 (sym (append_assoc (item_bytes x) (flat_map item_bytes xs) a) ∙ e ∙ append_assoc (item_bytes y) (flat_map item_bytes ys) b) in
    let others = items_once xs ys a b (omega (arith, n)) p.1 q.1 first.1 in
    (ap (λ (i : PartItem). i ∷ xs) first.0 ∙ ap (λ (l : List PartItem). y ∷ l) others.0, others.1)
