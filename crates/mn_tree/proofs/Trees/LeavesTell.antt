-- Leaves that a transaction holds and that serve its version: each has the version's pairs of its
-- range, and no two have a key in common.
use Rattle.std.proofs.Common.{◌≡◌, ◌⊎◌, inl, inr, ℕ, Bool, true, false, not, ◌&&◌, List, Option, Some, None, refl, subst, sym, ap, ◌∙◌}
use Rattle.std.specs.Prelude.{filter}
use Rattle.std.specs.List.{AllByRecursion}
use Rattle.std.proofs.lemmas.Bool.{and_parts}
use Rattle.std.proofs.lemmas.List.Elements.{filter_agree}
use Rattle.mn_base.specs.Order.{key_lt, below_bound, covers_key}
use Rattle.mn_base.specs.Store.{is_ascending}
use Rattle.mn_base.specs.declared.ids.Addr.{Addr}
use Rattle.mn_base.specs.declared.reply.Pair.{Pair}
use Rattle.mn_base.proofs.PairsWith.{ascending-filter}
use Rattle.mn_base.proofs.Booleans.{clash}
use Rattle.mn_page.specs.declared.entry.CatEntry.{CatEntry}
use Rattle.mn_page.specs.declared.page.Page.{Page}
use Rattle.mn_page.specs.declared.page.Body.TheVariants.{Leaf}
use Rattle.mn_page.specs.Grammar.{height_of}
use Rattle.mn_page.specs.Holds.{PagesAt, page_covers, page_serves, pairs_in}
use Rattle.mn_page.specs.Overlay.{Halves, halves_of, is_new}
use Rattle.mn_page.proofs.Grid.{filter_both}
use Rattle.mn_tree.specs.Trees.{is_noted}
use Rattle.mn_tree.proofs.Trees.Fits.{passes}
use Rattle.mn_tree.proofs.Trees.Halved.{Halved, halved}
use Rattle.mn_tree.proofs.Trees.LeafWrites.{IsWhole, IsLeft, IsRight, IsHalf}
use Rattle.mn_tree.proofs.Trees.OnlyAt.{is_kept}
use Rattle.mn_tree.proofs.Trees.Ranges.{left_covers, right_covers}

-- the memory's leaf of the version at this address, one of those that were read, covers the key
pub record CameFrom (entries : List CatEntry) (at : PagesAt) (v : ℕ) (leaves : List Addr) (key : List ℕ) (addr : Addr) : Type 0 where
  pub noted : is_noted leaves addr ≡ true
  pub page : Page
  pub there : at addr ≡ Some page
  pub level : height_of page.body ≡ 0
  pub serves : page_serves entries v page ≡ true
  pub covers : page_covers key page ≡ true

module _ (entries : List CatEntry) (at : PagesAt) (v : ℕ) (leaves : List Addr) (IsLive : Page → Type 0) where
  -- a leaf has the version's pairs of its range, and its range lies in those of leaves that were
  -- read and are held: an old one's in its own
  pub record Tells (look : PagesAt) (ps : List Pair) (a : Addr) (p : Page) : Type 0 where
    pub pairs : filter (λ pair. page_covers pair.key p) ps ≡ pairs_in p.body
    pub fences : below_bound p.low p.high ≡ true
    pub from : (key : List ℕ) → page_covers key p ≡ true → (x : Addr) × CameFrom entries at v leaves key x × (is_new a ≡ false → x ≡ a) × (look x ≡ None → ⊥)

  -- the leaves that were read or are new, and that serve the version
  pub record AllTell (look : PagesAt) (ps : List Pair) : Type 0 where
    pub ascending : is_ascending ps ≡ true
    pub tells : (a : Addr) (p : Page) → look a ≡ Some p → is_kept leaves a ≡ true → height_of p.body ≡ 0 → IsLive p → Tells look ps a p
    pub apart : (a b : Addr) (p q : Page) (key : List ℕ) → look a ≡ Some p → look b ≡ Some q → is_kept leaves a ≡ true → is_kept leaves b ≡ true → height_of p.body ≡ 0 → height_of q.body ≡ 0 → IsLive p → IsLive q → page_covers key p ≡ true
        → page_covers key q ≡ true → a ≡ b

  -- new pairs of a version differ from the old ones only in the range of this page
  pub record Differs (h : Page) (key : List ℕ) (ps now : List Pair) (new : List Pair) : Type 0 where
    pub ascending : is_ascending now ≡ true
    pub covers : page_covers key h ≡ true
    pub here : filter (λ pair. page_covers pair.key h) now ≡ new
    pub outside : (y : Page) → page_covers key y ≡ false → filter (λ pair. page_covers pair.key y) now ≡ filter (λ pair. page_covers pair.key y) ps

  -- where the leaves of a changed tree come from: from the leaf that was changed, or they were
  -- there
  data Part (look : PagesAt) (x : Addr) (IsPart : Addr → Page → Type 0) (a : Addr) (p : Page) : Type 0 where
    part : IsPart a p → Part look x IsPart a p
    other : look a ≡ Some p → (a ≡ x → ⊥) → Part look x IsPart a p

  -- parts of a leaf: they cover what it covers, no two a key in common, and have the new pairs of
  -- their ranges
  record AreParts (x : Addr) (h : Page) (now : List Pair) (IsPart : Addr → Page → Type 0) : Type 0 where
    within : (a : Addr) (p : Page) (key : List ℕ) → IsPart a p → page_covers key p ≡ true → page_covers key h ≡ true
    old : (a : Addr) (p : Page) → IsPart a p → is_new a ≡ false → a ≡ x
    fences : (a : Addr) (p : Page) → IsPart a p → below_bound p.low p.high ≡ true
    pairs : (a : Addr) (p : Page) → IsPart a p → filter (λ pair. page_covers pair.key p) now ≡ pairs_in p.body
    apart : (a b : Addr) (p q : Page) (key : List ℕ) → IsPart a p → IsPart b q → page_covers key p ≡ true → page_covers key q ≡ true → a ≡ b

  not_both : (b c : Bool) → (b ≡ true → c ≡ true → ⊥) → b ≡ true → c ≡ false
  not_both b true off e = absurd (off e refl)
  not_both b false off e = refl

  -- a leaf in parts, with new pairs
  parts_tell : (look then : PagesAt) (ps now new : List Pair) (x : Addr) (h : Page) (key : List ℕ) (IsPart : Addr → Page → Type 0) → AllTell look ps → look x ≡ Some h → is_kept leaves x ≡ true → height_of h.body ≡ 0 → IsLive h → Differs h key ps now new
      → AreParts x h now IsPart → ((a : Addr) → then a ≡ None → look a ≡ None) → ((a : Addr) (p : Page) → then a ≡ Some p → height_of p.body ≡ 0 → IsLive p → Part look x IsPart a p) → AllTell then now
  parts_tell look then ps now new x h key IsPart all there known flat alive change parts keeps_held from = record {
    ascending = change.ascending;
    tells = λ a p found keep level live. tells a p keep level live (from a p found level live);
    apart = λ a b p q k found also keep keeps level levels live lives covers covered. apart a b p q k keep keeps level levels live lives covers covered (from a p found level live) (from b q also levels lives);
  }
    where
      here : Tells look ps x h
      here = all.tells x h there known flat alive

      tells : (a : Addr) (p : Page) → is_kept leaves a ≡ true → height_of p.body ≡ 0 → IsLive p → Part look x IsPart a p → Tells then now a p
      tells a p keep level live (part is) = record {
        pairs = parts.pairs a p is;
        fences = parts.fences a p is;
        from = λ k covers.
            let o = here.from k (parts.within a p k is covers) in
            (o.0, o.1, (λ old. let same = parts.old a p is old in o.2 (ap is_new (sym same) ∙ old) ∙ sym same), λ none. o.3 (keeps_held o.0 none));
      }
      tells a p keep level live (other was off) =
          let t = all.tells a p was keep level live in
          record {
            pairs = change.outside p (not_both (page_covers key h) (page_covers key p) (λ e f. off (sym (all.apart x a h p key there was known keep flat level alive live e f))) change.covers) ∙ t.pairs;
            fences = t.fences;
            from = λ k covers. let o = t.from k covers in (o.0, o.1, o.2, λ none. o.3 (keeps_held o.0 none));
          }

      apart : (a b : Addr) (p q : Page) (k : List ℕ) → is_kept leaves a ≡ true → is_kept leaves b ≡ true → height_of p.body ≡ 0 → height_of q.body ≡ 0 → IsLive p → IsLive q → page_covers k p ≡ true → page_covers k q ≡ true → Part look x IsPart a p → Part look x IsPart b q → a ≡ b
      apart a b p q k keep keeps level levels live lives covers covered (part is) (part also) = parts.apart a b p q k is also covers covered
      apart a b p q k keep keeps level levels live lives covers covered (part is) (other was off) = absurd (off (sym (all.apart x b h q k there was known keeps flat levels alive lives (parts.within a p k is covers) covered)))
      apart a b p q k keep keeps level levels live lives covers covered (other was off) (part also) = absurd (off (all.apart a x p h k was there keep known level flat live alive covers (parts.within b q k also covered)))
      apart a b p q k keep keeps level levels live lives covers covered (other was off) (other is away) = all.apart a b p q k was is keep keeps level levels live lives covers covered

  -- the whole leaf, in its place or at y
  pub whole_tells : (look then : PagesAt) (ps now new : List Pair) (x y : Addr) (h : Page) (key : List ℕ) → AllTell look ps → look x ≡ Some h → is_kept leaves x ≡ true → height_of h.body ≡ 0 → IsLive h → Differs h key ps now new → (is_new y ≡ false → y ≡ x)
      → ((a : Addr) → then a ≡ None → look a ≡ None) → ((a : Addr) (p : Page) → then a ≡ Some p → height_of p.body ≡ 0 → IsLive p → IsWhole y h new a p ⊎ ((look a ≡ Some p) × (a ≡ x → ⊥))) → AllTell then now
  whole_tells look then ps now new x y h key all there known flat alive change in_place keeps_held from =
      parts_tell look then ps now new x h key (IsWhole y h new) all there known flat alive change
      (record {
        within = λ a p k is covers. sym (same_cover p is k) ∙ covers;
        old = λ a p is old. is.0 ∙ in_place (ap is_new (sym is.0) ∙ old);
        fences = λ a p is. ap (λ (l : List ℕ). below_bound l p.high) is.1 ∙ (ap (below_bound h.low) is.2 ∙ (all.tells x h there known flat alive).fences);
        pairs = λ a p is. filter_agree (λ pair. page_covers pair.key p) (λ pair. page_covers pair.key h) (λ pair. same_cover p is pair.key) now ∙ (change.here ∙ sym (ap pairs_in is.3));
        apart = λ a b p q k is also covers covered. is.0 ∙ sym also.0;
      })
      keeps_held
      (λ a p found level live. came a p (from a p found level live))
    where
      same_cover : {a : Addr} (p : Page) → IsWhole y h new a p → (k : List ℕ) → page_covers k p ≡ page_covers k h
      same_cover p is k = ap (λ (l : List ℕ). covers_key l p.high k) is.1 ∙ ap (λ (b : Option (List ℕ)). covers_key h.low b k) is.2

      came : (a : Addr) (p : Page) → IsWhole y h new a p ⊎ ((look a ≡ Some p) × (a ≡ x → ⊥)) → Part look x (IsWhole y h new) a p
      came a p (inl is) = part is
      came a p (inr o) = other o.0 o.1

  -- two halves
  and_first : (b c d : Bool) → d ≡ (b && c) → d ≡ true → (b ≡ true) × (c ≡ true)
  and_first b c d e f = and_parts b c (sym e ∙ f)

  pub halves_tell : (look then : PagesAt) (ps now new : List Pair) (x l r : Addr) (h : Page) (hs : Halves) (key : List ℕ) → AllTell look ps → look x ≡ Some h → is_kept leaves x ≡ true → height_of h.body ≡ 0 → IsLive h → Differs h key ps now new
      → halves_of (Leaf new) ≡ Some hs → (is_new l ≡ false → l ≡ x) → is_new r ≡ true → ((a : Addr) → then a ≡ None → look a ≡ None) → ((a : Addr) (p : Page) → then a ≡ Some p → height_of p.body ≡ 0 → IsLive p → IsHalf l r h hs a p ⊎ ((look a ≡ Some p) × (a ≡ x → ⊥))) → AllTell then now
  halves_tell look then ps now new x l r h hs key all there known flat alive change split left_old right_new keeps_held from =
      parts_tell look then ps now new x h key (IsHalf l r h hs) all there known flat alive change
      (record {
        within = λ a p k is covers. within p k is covers;
        old = λ a p is old. place a p is old;
        fences = λ a p is. fences p is;
        pairs = λ a p is. pairs p is;
        apart = λ a b p q k is also covers covered. apart a b p q k is also covers covered;
      })
      keeps_held
      (λ a p found level live. came a p (from a p found level live))
    where
      cut : Halved h.low h.high (Leaf new) hs
      cut = halved h.low h.high (Leaf new) hs split (all.tells x h there known flat alive).fences (record {
        ascending = subst (λ (l : List Pair). is_ascending l ≡ true) change.here (ascending-filter (λ pair. page_covers pair.key h) now change.ascending);
        within = subst (AllByRecursion (λ (pair : Pair). covers_key h.low h.high pair.key ≡ true)) change.here (passes (λ (pair : Pair). page_covers pair.key h) now);
      })

      left_is : {a : Addr} (p : Page) → IsLeft l h hs a p → (k : List ℕ) → page_covers k p ≡ (page_covers k h && key_lt k hs.separator)
      left_is p is k = ap (λ (low : List ℕ). covers_key low p.high k) is.1 ∙ (ap (λ (b : Option (List ℕ)). covers_key h.low b k) is.2 ∙ left_covers h.low hs.separator h.high k cut.below)

      right_is : {a : Addr} (p : Page) → IsRight r h hs a p → (k : List ℕ) → page_covers k p ≡ (page_covers k h && not (key_lt k hs.separator))
      right_is p is k = ap (λ (low : List ℕ). covers_key low p.high k) is.1 ∙ (ap (λ (b : Option (List ℕ)). covers_key hs.separator b k) is.2 ∙ right_covers h.low hs.separator h.high k cut.above)

      within : {a : Addr} (p : Page) (k : List ℕ) → IsHalf l r h hs a p → page_covers k p ≡ true → page_covers k h ≡ true
      within p k (inl is) covers = (and_first (page_covers k h) (key_lt k hs.separator) (page_covers k p) (left_is p is k) covers).0
      within p k (inr is) covers = (and_first (page_covers k h) (not (key_lt k hs.separator)) (page_covers k p) (right_is p is k) covers).0

      place : (a : Addr) (p : Page) → IsHalf l r h hs a p → is_new a ≡ false → a ≡ x
      place a p (inl is) old = is.0 ∙ left_old (ap is_new (sym is.0) ∙ old)
      place a p (inr is) old = absurd (clash (is_new a) (ap is_new is.0 ∙ right_new) old)

      fences : {a : Addr} (p : Page) → IsHalf l r h hs a p → below_bound p.low p.high ≡ true
      fences p (inl is) = ap (λ (low : List ℕ). below_bound low p.high) is.1 ∙ (ap (below_bound h.low) is.2 ∙ cut.above)
      fences p (inr is) = ap (λ (low : List ℕ). below_bound low p.high) is.1 ∙ (ap (below_bound hs.separator) is.2 ∙ cut.below)

      pairs : {a : Addr} (p : Page) → IsHalf l r h hs a p → filter (λ pair. page_covers pair.key p) now ≡ pairs_in p.body
      pairs p (inl is) =
          filter_agree (λ pair. page_covers pair.key p) (λ pair. page_covers pair.key h && key_lt pair.key hs.separator) (λ pair. left_is p is pair.key) now
          ∙ (sym (filter_both (λ pair. key_lt pair.key hs.separator) (λ pair. page_covers pair.key h) now)
          ∙ (ap (filter (λ pair. key_lt pair.key hs.separator)) change.here ∙ (cut.left_pairs ∙ sym (ap pairs_in is.3))))
      pairs p (inr is) =
          filter_agree (λ pair. page_covers pair.key p) (λ pair. page_covers pair.key h && not (key_lt pair.key hs.separator)) (λ pair. right_is p is pair.key) now
          ∙ (sym (filter_both (λ pair. not (key_lt pair.key hs.separator)) (λ pair. page_covers pair.key h) now)
          ∙ (ap (filter (λ pair. not (key_lt pair.key hs.separator))) change.here ∙ (cut.right_pairs ∙ sym (ap pairs_in is.3))))

      both_sides : (b : Bool) → b ≡ true → not b ≡ true → ⊥
      both_sides b e f = absurd cc

      sides : {a b : Addr} (p q : Page) (k : List ℕ) → IsLeft l h hs a p → IsRight r h hs b q → page_covers k p ≡ true → page_covers k q ≡ true → ⊥
      sides p q k is also covers covered =
          both_sides (key_lt k hs.separator) (and_first (page_covers k h) (key_lt k hs.separator) (page_covers k p) (left_is p is k) covers).1
          (and_first (page_covers k h) (not (key_lt k hs.separator)) (page_covers k q) (right_is q also k) covered).1

      apart : (a b : Addr) (p q : Page) (k : List ℕ) → IsHalf l r h hs a p → IsHalf l r h hs b q → page_covers k p ≡ true → page_covers k q ≡ true → a ≡ b
      apart a b p q k (inl is) (inl also) covers covered = is.0 ∙ sym also.0
      apart a b p q k (inl is) (inr also) covers covered = absurd (sides p q k is also covers covered)
      apart a b p q k (inr is) (inl also) covers covered = absurd (sides q p k also is covered covers)
      apart a b p q k (inr is) (inr also) covers covered = is.0 ∙ sym also.0

      came : (a : Addr) (p : Page) → IsHalf l r h hs a p ⊎ ((look a ≡ Some p) × (a ≡ x → ⊥)) → Part look x (IsHalf l r h hs) a p
      came a p (inl is) = part is
      came a p (inr o) = other o.0 o.1
