-- What is lent from the bytes of a page, and the page.
use Rattle.std.proofs.Common.{◌≡◌, ℕ, zero, suc, ◌+◌, ◌<◌, ◌≤◌, Bool, true, cond, List, [], ◌∷◌, length, take, map, Some, refl, subst, sym, ap, ◌∙◌, arith, slice_get, slice_index_or}
use Rattle.std.specs.Prelude.{nat_eq}
use Rattle.std.proofs.lemmas.Bool.Decides.{nat_tests}
use Rattle.mn_page.specs.declared.page.Body.{Body}
use Rattle.mn_page.specs.declared.page.Body.TheVariants.{Leaf, Inner}
use Rattle.mn_page.specs.declared.page_ref.BodyRef.{BodyRef}
use Rattle.mn_page.specs.declared.page_ref.PairRef.{PairRef}
use Rattle.mn_page.specs.declared.page_ref.ChildRef.{ChildRef}
use Rattle.mn_page.specs.Grammar.{count_in}
use Rattle.mn_page.specs.Reading.{body_seen, pair_seen, child_seen, pairs_seen, children_seen, HasCounted, keys_in, values_in, addrs_in}
use Rattle.mn_page.proofs.FrontBodies.{not_flat}

is_zero : (n : ℕ) → n ≡ 0 → nat_eq n 0 ≡ true
is_zero n h = grind (arith, nat_tests)

pub leaf_seen : (b : BodyRef) → b.height ≡ 0 → body_seen b ≡ Leaf (pairs_seen b.count b.pairs)
leaf_seen b h = ap (λ (t : Bool). cond t (Leaf (pairs_seen b.count b.pairs)) (Inner b.height b.first (children_seen b.count b.rest))) (is_zero b.height h)

pub inner_seen : (b : BodyRef) → 1 ≤ b.height → body_seen b ≡ Inner b.height b.first (children_seen b.count b.rest)
inner_seen b h = ap (λ (t : Bool). cond t (Leaf (pairs_seen b.count b.pairs)) (Inner b.height b.first (children_seen b.count b.rest))) (not_flat b.height h)

seen_length : {A B : Type 0} (f : A → B) (xs : List A) (count : ℕ) → count ≤ length xs → length (map f (take count xs)) ≡ count
seen_length f xs zero h = refl
seen_length f [] (suc count) h = absurd (omega arith)
seen_length f (x ∷ xs) (suc count) h = ap (λ n. suc n) (seen_length f xs count (omega arith))

-- what is told of an element that is counted
seen_at : {A B C : Type 0} (f : A → B) (g : B → C) (xs : List A) (count i : ℕ) (d : A) → i < length (map g (map f (take count xs))) → slice_get (map g (map f (take count xs))) i ≡ Some (g (f (slice_index_or xs i d)))
seen_at f g xs zero i d h = absurd (omega arith)
seen_at f g [] (suc count) i d h = absurd (omega arith)
seen_at f g (x ∷ xs) (suc count) zero d h = refl
seen_at f g (x ∷ xs) (suc count) (suc i) d h = seen_at f g xs count i d (omega arith)

few : (a b c : ℕ) → a ≤ b → c ≡ b → a ≤ c
few a b c h e = omega (arith, h, e)

pub leaf_count : (b : BodyRef) → HasCounted b → b.height ≡ 0 → b.count ≡ count_in (body_seen b)
leaf_count b has h = sym (ap count_in (leaf_seen b h) ∙ seen_length pair_seen b.pairs b.count (few b.count 8 (length b.pairs) has.pairs has.sizes.0))

pub inner_count : (b : BodyRef) → HasCounted b → 1 ≤ b.height → b.count + 1 ≡ count_in (body_seen b)
inner_count b has h = sym (ap count_in (inner_seen b h) ∙ ap (λ n. n + 1) (seen_length child_seen b.rest b.count (few b.count 7 (length b.rest) (has.rest h) has.sizes.1)))

pub leaf_key : (b : BodyRef) (i : ℕ) (d : PairRef) → b.height ≡ 0 → i < length (keys_in (body_seen b)) → slice_get (keys_in (body_seen b)) i ≡ Some (slice_index_or b.pairs i d).key.now
leaf_key b i d h here =
    let body = leaf_seen b h in
    ap (λ (x : Body). slice_get (keys_in x) i) body ∙ seen_at pair_seen (λ p. p.key) b.pairs b.count i d (subst (λ (x : Body). i < length (keys_in x)) body here)

pub inner_key : (b : BodyRef) (i : ℕ) (d : ChildRef) → 1 ≤ b.height → i < length (keys_in (body_seen b)) → slice_get (keys_in (body_seen b)) i ≡ Some (slice_index_or b.rest i d).separator.now
inner_key b i d h here =
    let body = inner_seen b h in
    ap (λ (x : Body). slice_get (keys_in x) i) body ∙ seen_at child_seen (λ c. c.separator) b.rest b.count i d (subst (λ (x : Body). i < length (keys_in x)) body here)

-- only a leaf has values
values_leaf : (b : BodyRef) (i : ℕ) → i < length (values_in (body_seen b)) → b.height ≡ 0
values_leaf b i here = cases b.height refl
  where
    cases : (n : ℕ) → n ≡ b.height → b.height ≡ 0
    cases zero e = sym e
    cases (suc n) e = let none = subst (λ (x : Body). i < length (values_in x)) (inner_seen b (omega (arith, e))) here in absurd (omega (arith, none))

pub value_at : (b : BodyRef) (i : ℕ) (d : PairRef) → i < length (values_in (body_seen b)) → slice_get (values_in (body_seen b)) i ≡ Some (slice_index_or b.pairs i d).value.now
value_at b i d here =
    let body = leaf_seen b (values_leaf b i here) in
    ap (λ (x : Body). slice_get (values_in x) i) body ∙ seen_at pair_seen (λ p. p.value) b.pairs b.count i d (subst (λ (x : Body). i < length (values_in x)) body here)

-- only an inner page has children
addrs_inner : (b : BodyRef) (i : ℕ) → i < length (addrs_in (body_seen b)) → 1 ≤ b.height
addrs_inner b i here = cases b.height refl
  where
    cases : (n : ℕ) → n ≡ b.height → 1 ≤ b.height
    cases zero e = let none = subst (λ (x : Body). i < length (addrs_in x)) (leaf_seen b (sym e)) here in absurd (omega (arith, none))
    cases (suc n) e = omega (arith, e)

pub first_child : (b : BodyRef) (i : ℕ) → i ≡ 0 → i < length (addrs_in (body_seen b)) → slice_get (addrs_in (body_seen b)) i ≡ Some b.first
first_child b i least here = ap (λ (x : Body). slice_get (addrs_in x) i) (inner_seen b (addrs_inner b i here)) ∙ ap (λ n. slice_get (b.first ∷ map (λ c. c.addr) (children_seen b.count b.rest)) n) least

pub next_child : (b : BodyRef) (i j : ℕ) (d : ChildRef) → i ≡ suc j → i < length (addrs_in (body_seen b)) → slice_get (addrs_in (body_seen b)) i ≡ Some (slice_index_or b.rest j d).addr
next_child b i j d next here =
    let body = inner_seen b (addrs_inner b i here) in
    let within = subst (λ (x : Body). i < length (addrs_in x)) body here in
    ap (λ (x : Body). slice_get (addrs_in x) i) body ∙ (ap (λ n. slice_get (b.first ∷ map (λ c. c.addr) (children_seen b.count b.rest)) n) next
    ∙ seen_at child_seen (λ c. c.addr) b.rest b.count j d (omega (arith, next, within)))
