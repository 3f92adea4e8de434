-- What the steps of a cache make of its pages, by place inside and by address in its contracts.
use Rattle.std.proofs.Common.{◌≡◌, ℕ, zero, suc, ◌+◌, ◌-◌, ◌≤◌, Bool, true, false, cond, List, [], ◌∷◌, length, take, Option, Some, None, refl, sym, ap, subst, ◌∙◌, nat_eq, eqb-true, eq-eqb, arith}
use Rattle.std.specs.Prelude.{IfSome, option_copied}
use Rattle.std.specs.Borrow.{Bor}
use Rattle.std.specs.Cmp.{IsEquivalence}
use Rattle.std.specs.List.{IsDistinct, AllByRecursion, take-map}
use Rattle.std.specs.Option.{option_map, option_map_or}
use Rattle.std.specs.Map.{keys_of, lookup, lookup_entry, remove_entry}
use Rattle.std.proofs.lemmas.Map.{lookup-remove_entry, none_passes_from_lookup}
use Rattle.std.proofs.lemmas.Map.Keys.{IsDistinct-tail, IsDistinct-head, IsDistinct-cons}
use Rattle.lru.specs.LruCache.{promoted}
use Rattle.lru.proofs.CallerLemmas.{Contains-lookup_entry}
use Rattle.lru.proofs.Pairs.{lookup-lookup_entry}
use Rattle.mn_base.specs.Ids.{addr_same}
use Rattle.mn_base.specs.declared.ids.Addr.{Addr}
use Rattle.mn_base.proofs.Booleans.{both_parts}
use Rattle.mn_page.specs.Grammar.{page_bytes}
use Rattle.mn_page.specs.declared.page.Page.{Page}
use Rattle.mn_cache.specs.Pages.{addr_of, pages_of, page_at, pages_without, pages_used, pages_put, AreKept, AreSpelled}
use Rattle.mn_cache.specs.declared.cache.Place.{Place}
use Rattle.mn_cache.specs.declared.cache.Spelled.{Spelled}

-- Addresses

tells_apart : (a b : Addr) → addr_same a b ≡ true → a ≡ b
tells_apart a b h =
    let two = both_parts (nat_eq a.node.0 b.node.0) (nat_eq a.slot b.slot) h in
    ap (λ n. record { node = record { 0 = n }; slot = a.slot }) (eqb-true a.node.0 b.node.0 two.0)
    ∙ ap (λ n. record { node = b.node; slot = n }) (eqb-true a.slot b.slot two.1)

itself : (a : Addr) → addr_same a a ≡ true
itself a = rw (eq-eqb a.node.0 a.node.0 refl, eq-eqb a.slot a.slot refl) refl

-- Lists of entries

take_all : {X : Type 0} (n : ℕ) (xs : List X) → length xs ≤ n → take n xs ≡ xs
take_all zero [] h = refl
take_all zero (x ∷ xs) h = absurd (omega (arith, h))
take_all (suc n) [] h = refl
take_all (suc n) (x ∷ xs) h = ap (λ l. x ∷ l) (take_all n xs (omega (arith, h)))

length_take : {X : Type 0} (n : ℕ) (xs : List X) → length (take n xs) ≤ n
length_take zero xs = omega arith
length_take (suc n) [] = omega arith
length_take (suc n) (x ∷ xs) = omega (arith, length_take n xs)

module _ {K X : Type 0} (test : K → Bool) where
  without_none : (es : List (K × X)) → lookup_entry test es ≡ None → remove_entry test es ≡ es
  without_none [] h = refl
  without_none (e ∷ es) h = (elim (test e.0) as (λ y. test e.0 ≡ y → remove_entry test (e ∷ es) ≡ e ∷ es) [
    | true ↦ λ t. let h' = rw t at h in absurd cc
    | false ↦ λ t. rw t (ap (λ l. e ∷ l) (without_none es (rw t at h)))
  ]) refl

  without_one : (es : List (K × X)) (f : K × X) → lookup_entry test es ≡ Some f → length (remove_entry test es) + 1 ≡ length es
  without_one [] f h = absurd cc
  without_one (e ∷ es) f h = (elim (test e.0) as (λ y. test e.0 ≡ y → length (remove_entry test (e ∷ es)) + 1 ≡ length (e ∷ es)) [
    | true ↦ λ t. rw t (omega arith)
    | false ↦ λ t. rw t (omega (arith, without_one es f (rw t at h)))
  ]) refl

  without_fewer : (es : List (K × X)) → length (remove_entry test es) ≤ length es
  without_fewer [] = omega arith
  without_fewer (e ∷ es) = (elim (test e.0) as (λ y. test e.0 ≡ y → length (remove_entry test (e ∷ es)) ≤ length (e ∷ es)) [
    | true ↦ λ t. rw t (omega arith)
    | false ↦ λ t. rw t (omega (arith, without_fewer es))
  ]) refl

  all_without : (P : K → Type 0) (es : List (K × X)) → AllByRecursion P (keys_of es) → AllByRecursion P (keys_of (remove_entry test es))
  all_without P [] a = tt
  all_without P (e ∷ es) a = (elim (test e.0) as (λ y. test e.0 ≡ y → AllByRecursion P (keys_of (remove_entry test (e ∷ es)))) [
    | true ↦ λ t. rw t a.1
    | false ↦ λ t. rw t (a.0, all_without P es a.1)
  ]) refl

  distinct_without : (same : K → K → Bool) (es : List (K × X)) → IsDistinct same (keys_of es) → IsDistinct same (keys_of (remove_entry test es))
  distinct_without same [] d = d
  distinct_without same (e ∷ es) d =
      let tail = IsDistinct-tail same e.0 (keys_of es) d in
      (elim (test e.0) as (λ y. test e.0 ≡ y → IsDistinct same (keys_of (remove_entry test (e ∷ es)))) [
        | true ↦ λ t. rw t tail
        | false ↦ λ t. rw t (IsDistinct-cons same e.0 _ (all_without (λ y. same e.0 y ≡ false) es (IsDistinct-head same e.0 (keys_of es) d)) (distinct_without same es tail))
      ]) refl

all_take : {K X : Type 0} (P : K → Type 0) (n : ℕ) (es : List (K × X)) → AllByRecursion (λ e. P e.0) es → AllByRecursion P (keys_of (take n es))
all_take P zero es a = tt
all_take P (suc n) [] a = tt
all_take P (suc n) (e ∷ es) a = (a.0, all_take P n es a.1)

all_entries : {K X : Type 0} (P : K → Type 0) (es : List (K × X)) → AllByRecursion P (keys_of es) → AllByRecursion (λ e. P e.0) es
all_entries P [] a = tt
all_entries P (e ∷ es) a = (a.0, all_entries P es a.1)

distinct_take : {K X : Type 0} (same : K → K → Bool) (n : ℕ) (es : List (K × X)) → IsDistinct same (keys_of es) → IsDistinct same (keys_of (take n es))
unfolding IsDistinct
distinct_take same zero es d = tt
distinct_take same (suc n) [] d = tt
distinct_take same (suc n) (e ∷ es) d = (all_take (λ y. same e.0 y ≡ false) n es (all_entries (λ y. same e.0 y ≡ false) es d.0), distinct_take same n es d.1)

length_pages : (es : List (Place × Spelled)) → length (pages_of es) ≡ length es
length_pages [] = refl
length_pages (e ∷ es) = ap suc (length_pages es)

both_ways : (x y : Bool) → (x ≡ true → y ≡ true) → (y ≡ true → x ≡ true) → x ≡ y
both_ways true y f g = sym (f refl)
both_ways false true f g = g refl
both_ways false false f g = refl

turned : (a b : Addr) → addr_same a b ≡ true → addr_same b a ≡ true
turned a b h = subst (λ x. addr_same x a ≡ true) (tells_apart a b h) (itself a)

same_equiv : IsEquivalence addr_same
same_equiv = record {
  refl = itself;
  symm = λ a b. both_ways (addr_same a b) (addr_same b a) (λ h. turned a b h) (λ h. turned b a h);
  congr = λ a b c h. ap (λ x. addr_same x c) (tells_apart a b h);
}

-- Steps

module _ (addr : Addr) where
  abbrev stands : Place → Bool
  stands place = addr_same addr (addr_of place)

  pub found : (es : List (Place × Spelled)) → page_at addr (pages_of es) ≡ option_map (λ s. s.page) (lookup stands es)
  found [] = refl
  found (e ∷ es) = by (stands e.0) (found es)
    where
      by : (b : Bool) → page_at addr (pages_of es) ≡ option_map (λ s. s.page) (lookup stands es)
          → cond b (Some e.1.page) (page_at addr (pages_of es)) ≡ option_map (λ s. s.page) (cond b (Some e.1) (lookup stands es))
      by true later = refl
      by false later = later

  pub without : (es : List (Place × Spelled)) → pages_without addr (pages_of es) ≡ pages_of (remove_entry stands es)
  without [] = refl
  without (e ∷ es) = by (stands e.0) (without es)
    where
      by : (b : Bool) → pages_without addr (pages_of es) ≡ pages_of (remove_entry stands es) → cond b (pages_of es) ((addr_of e.0, e.1.page) ∷ pages_without addr (pages_of es)) ≡ pages_of (cond b es (e ∷ remove_entry stands es))
      by true later = refl
      by false later = ap (λ l. (addr_of e.0, e.1.page) ∷ l) later

  of_addr : (es : List (Place × Spelled)) (e : Place × Spelled) → lookup_entry stands es ≡ Some e → addr ≡ addr_of e.0
  of_addr es e h = tells_apart addr (addr_of e.0) (Contains-lookup_entry stands es e h).1

  page_by : (es : List (Place × Spelled)) (o : Option (Place × Spelled)) → lookup_entry stands es ≡ o → page_at addr (pages_of es) ≡ option_map (λ e. e.1.page) o
  page_by es o h = found es ∙ ap (option_map (λ s. s.page)) (sym (lookup-lookup_entry stands es) ∙ ap (option_map (λ e. e.1)) h) ∙ mapped o
    where
      mapped : (o : Option (Place × Spelled)) → option_map (λ s. s.page) (option_map (λ e. e.1) o) ≡ option_map (λ e. e.1.page) o
      mapped None = refl
      mapped (Some e) = refl

  pub used : (es : List (Place × Spelled)) → pages_used addr (pages_of es) ≡ pages_of (promoted stands es)
  used es = by (lookup_entry stands es) refl
    where
      by : (o : Option (Place × Spelled)) → lookup_entry stands es ≡ o → pages_used addr (pages_of es) ≡ pages_of (option_map_or (λ e. e ∷ remove_entry stands es) o es)
      by None h = ap (λ o. option_map_or (λ page. (addr, page) ∷ pages_without addr (pages_of es)) o (pages_of es)) (page_by es None h)
      by (Some e) h =
          ap (λ o. option_map_or (λ page. (addr, page) ∷ pages_without addr (pages_of es)) o (pages_of es)) (page_by es (Some e) h)
          ∙ ap (λ l. (addr, e.1.page) ∷ l) (without es)
          ∙ ap (λ a. (a, e.1.page) ∷ pages_of (remove_entry stands es)) (of_addr es e h)

  pub put : (es : List (Place × Spelled)) (cap : ℕ) (place : Place) (kept : Spelled) → addr_of place ≡ addr → cap ≡ 64 → length (pages_of es) ≤ 64
      → pages_put addr kept.page (pages_of es) ≡ pages_of (option_map_or (λ e. (e.0, kept) ∷ remove_entry stands es) (lookup_entry stands es) ((place, kept) ∷ take (cap - 1) es))
  put es cap place kept here most few = by (lookup_entry stands es) refl
    where
      by : (o : Option (Place × Spelled)) → lookup_entry stands es ≡ o → pages_put addr kept.page (pages_of es) ≡ pages_of (option_map_or (λ e. (e.0, kept) ∷ remove_entry stands es) o ((place, kept) ∷ take (cap - 1) es))
      by None h =
          ap (λ l. (addr, kept.page) ∷ take 63 l) (without es ∙ ap (λ l. pages_of l) (without_none stands es h))
          ∙ ap (λ l. (addr, kept.page) ∷ l) (take-map (λ (e : Place × Spelled). (addr_of e.0, e.1.page)) 63 es)
          ∙ ap (λ a. (a, kept.page) ∷ pages_of (take 63 es)) (sym here)
          ∙ ap (λ n. (addr_of place, kept.page) ∷ pages_of (take (n - 1) es)) (sym most)
      by (Some e) h =
          let one = without_one stands es e h in
          let shorter : length (pages_of (remove_entry stands es)) ≤ 63 = omega (arith, few, one, length_pages es, length_pages (remove_entry stands es)) in
          ap (λ l. (addr, kept.page) ∷ take 63 l) (without es)
          ∙ ap (λ l. (addr, kept.page) ∷ l) (take_all 63 (pages_of (remove_entry stands es)) shorter)
          ∙ ap (λ a. (a, kept.page) ∷ pages_of (remove_entry stands es)) (of_addr es e h)

module _ (addr : Addr) (pages : List (Addr × Page)) (k : AreKept pages) where
  pub gone : page_at addr (pages_without addr pages) ≡ None
  gone = lookup-remove_entry same_equiv (addr_same addr) (same_equiv.congr addr) addr pages k.1 ∙ ap (λ b. cond b None (lookup (addr_same addr) pages)) (itself addr)

  pub kept_without : AreKept (pages_without addr pages)
  kept_without = (omega (arith, k.0, without_fewer (addr_same addr) pages), distinct_without (addr_same addr) addr_same pages k.1)

  pub kept_put : (page : Page) → AreKept (pages_put addr page pages)
  kept_put page =
      let rest = pages_without addr pages in (
        length_take 64 ((addr, page) ∷ rest),
        IsDistinct-cons addr_same addr (keys_of (take 63 rest))
            (all_take (λ y. addr_same addr y ≡ false) 63 rest (none_passes_from_lookup (addr_same addr) rest gone))
            (distinct_take addr_same 63 rest (kept_without).1),
      )

pub put_found : (addr : Addr) (page : Page) (pages : List (Addr × Page)) → page_at addr (pages_put addr page pages) ≡ Some page
put_found addr page pages = ap (λ b. cond b (Some page) (page_at addr (take 63 (pages_without addr pages)))) (itself addr)

keys_none : (addr : Addr) (es : List (Addr × Page)) → AllByRecursion (λ e. addr_same addr e.0 ≡ false) es → AllByRecursion (λ y. addr_same addr y ≡ false) (keys_of es)
keys_none addr [] a = tt
keys_none addr (e ∷ es) a = (a.0, keys_none addr es a.1)

looked_up : (addr : Addr) (page : Page) (es : List (Addr × Page)) → page_at addr es ≡ Some page → length (pages_without addr es) + 1 ≡ length es
looked_up addr page [] h = absurd cc
looked_up addr page (e ∷ es) h = (elim (addr_same addr e.0) as (λ y. addr_same addr e.0 ≡ y → length (pages_without addr (e ∷ es)) + 1 ≡ length (e ∷ es)) [
  | true ↦ λ t. rw t (omega arith)
  | false ↦ λ t. rw t (omega (arith, looked_up addr page es (rw t at h)))
]) refl

module _ (addr : Addr) (pages : List (Addr × Page)) (k : AreKept pages) where
  pub kept_used : AreKept (pages_used addr pages)
  kept_used = by (page_at addr pages) refl
    where
      by : (o : Option Page) → page_at addr pages ≡ o → AreKept (option_map_or (λ page. (addr, page) ∷ pages_without addr pages) o pages)
      by None h = k
      by (Some page) h =
          let rest = pages_without addr pages in (
            omega (arith, k.0, looked_up addr page pages h),
            IsDistinct-cons addr_same addr (keys_of rest)
                (keys_none addr rest (none_passes_from_lookup (addr_same addr) rest (gone addr pages k)))
                (kept_without addr pages k).1,
          )

-- the address that a place was made of
pub here : (place : Place) (addr : Addr) → place.node ≡ addr.node.0 → place.slot ≡ addr.slot → addr_of place ≡ addr
here place addr node slot =
    ap (λ n. record { node = record { 0 = n }; slot = place.slot }) node ∙ ap (λ n. record { node = addr.node; slot = n }) slot

pub none_kept : AreKept []
unfolding IsDistinct
none_kept = (omega arith, tt)

-- Bytes

module _ {K X : Type 0} (test : K → Bool) (P : K × X → Type 0) where
  pub all_but : (es : List (K × X)) → AllByRecursion P es → AllByRecursion P (remove_entry test es)
  all_but [] a = tt
  all_but (e ∷ es) a = by (test e.0) (all_but es a.1)
    where
      by : (b : Bool) → AllByRecursion P (remove_entry test es) → AllByRecursion P (cond b es (e ∷ remove_entry test es))
      by true later = a.1
      by false later = (a.0, later)

  pub one_of : (es : List (K × X)) (e : K × X) → AllByRecursion P es → lookup_entry test es ≡ Some e → P e
  one_of [] e a h = absurd cc
  one_of (x ∷ es) e a h = by (test x.0) h (one_of es e a.1)
    where
      same : Some x ≡ Some e → x ≡ e
      same s = cc

      by : (b : Bool) → cond b (Some x) (lookup_entry test es) ≡ Some e → (lookup_entry test es ≡ Some e → P e) → P e
      by true at later = subst P (same at) a.0
      by false at later = later at

first_of : {X : Type 0} (P : X → Type 0) (n : ℕ) (xs : List X) → AllByRecursion P xs → AllByRecursion P (take n xs)
first_of P zero xs a = tt
first_of P (suc n) [] a = tt
first_of P (suc n) (x ∷ xs) a = (a.0, first_of P n xs a.1)

pub spelled_found : (test : Place → Bool) (es : List (Place × Spelled)) → AreSpelled es
    → IfSome (lookup test es) (λ s. s.bytes ≡ page_bytes s.page)
spelled_found test [] a = tt
spelled_found test (e ∷ es) a = by (test e.0) (spelled_found test es a.1)
  where
    by : (b : Bool) → IfSome (lookup test es) (λ s. s.bytes ≡ page_bytes s.page)
        → IfSome (cond b (Some e.1) (lookup test es)) (λ s. s.bytes ≡ page_bytes s.page)
    by true later = a.0
    by false later = later

module _ (test : Place → Bool) (es : List (Place × Spelled)) (a : AreSpelled es) where
  pub spelled_used : AreSpelled (promoted test es)
  spelled_used = by (lookup_entry test es) refl
    where
      by : (o : Option (Place × Spelled)) → lookup_entry test es ≡ o → AreSpelled (option_map_or (λ e. e ∷ remove_entry test es) o es)
      by None h = a
      by (Some e) h = (one_of test (λ e. e.1.bytes ≡ page_bytes e.1.page) es e a h, all_but test (λ e. e.1.bytes ≡ page_bytes e.1.page) es a)

  pub spelled_put : (cap : ℕ) (place : Place) (kept : Spelled) → kept.bytes ≡ page_bytes kept.page
      → AreSpelled (option_map_or (λ e. (e.0, kept) ∷ remove_entry test es) (lookup_entry test es) ((place, kept) ∷ take (cap - 1) es))
  spelled_put cap place kept is = by (lookup_entry test es)
    where
      by : (o : Option (Place × Spelled)) → AreSpelled (option_map_or (λ e. (e.0, kept) ∷ remove_entry test es) o ((place, kept) ∷ take (cap - 1) es))
      by None = (is, first_of (λ e. e.1.bytes ≡ page_bytes e.1.page) (cap - 1) es a)
      by (Some e) = (is, all_but test (λ e. e.1.bytes ≡ page_bytes e.1.page) es a)

-- What is lent

pub page_lent : (r : Option (Bor Spelled)) → option_map (λ s. s.now.page) r ≡ option_map (λ s. s.page) (option_copied r)
page_lent None = refl
page_lent (Some s) = refl

pub spelled_lent : (r : Option (Bor Spelled)) (o : Option Spelled) → option_copied r ≡ o → IfSome o (λ s. s.bytes ≡ page_bytes s.page)
    → IfSome r (λ s. s.now.bytes ≡ page_bytes s.now.page)
spelled_lent None o is spelled = tt
spelled_lent (Some s) o is spelled = subst (λ (x : Option Spelled). IfSome x (λ t. t.bytes ≡ page_bytes t.page)) (sym is) spelled
