-- A walk whose pages are cached comes to its leaf.
use Rattle.std.proofs.Common.{◌≡◌, ◌≢◌, ◌+◌, ◌<◌, ◌≤◌, ℕ, zero, suc, Bool, true, false, ◌&&◌, List, [], ◌∷◌, Option, Some, None, refl, sym, subst, ap, ◌∙◌, inl, inr, arith, nat_eq, eqb-true}
use Rattle.std.specs.Prelude.{if◌then◌else◌, nat_le, MatchOption, ⊤}
use Rattle.std.specs.Option.{option_map_or}
use Rattle.std.specs.Map.{lookup, remove_entry}
use Rattle.std.proofs.lemmas.Bool.Decides.{nat_tests}
use Rattle.mn_base.proofs.Booleans.{both_parts}
use Rattle.mn_base.specs.Ids.{addr_same}
use Rattle.mn_base.specs.Order.{covers_key}
use Rattle.mn_base.specs.Tree.{parents_of}
use Rattle.mn_base.specs.declared.ids.Addr.{Addr}
use Rattle.mn_cache.specs.Pages.{page_at, pages_used, pages_without}
use Rattle.mn_page.specs.declared.page.Page.{Page}
use Rattle.mn_page.specs.declared.page.Body.{Body}
use Rattle.mn_page.specs.declared.page.Body.TheVariants.{Leaf, Inner}
use Rattle.mn_page.specs.declared.entry.CatEntry.{CatEntry}
use Rattle.mn_page.specs.Forest.{heads_in}
use Rattle.mn_page.specs.Grammar.{height_of}
use Rattle.mn_path.specs.Walk.{FrontState, front_of, is_on_path, is_below, is_live, max_height, may_stand}
use Rattle.mn_work.specs.declared.get.Descent.{Descent}
use Rattle.mn_work.specs.declared.known.Known.{Known}
use Rattle.mn_work.specs.Cached.{AreUsed, used_all}
use Rattle.mn_work.specs.Descents.{gone_below, is_on_way}
use Rattle.mn_work.specs.Knows.{ArePages}
use Rattle.mn_work.specs.Paths.{IsAtLeaf, IsLower, LeadsTo, WalksDown}
use Rattle.mn_work.specs.Walks.{IsAbove}
use Rattle.mn_work.proofs.Cached.{found}

-- Pages that are used stay

tells_apart : (a b : Addr) → addr_same a b ≡ true → a ≡ b
tells_apart a b h =
    let two = both_parts (nat_eq a.node.0 b.node.0) (nat_eq a.slot b.slot) h in
    ap (λ n. record { node = record { 0 = n }; slot = a.slot }) (eqb-true a.node.0 b.node.0 two.0)
    ∙ ap (λ n. record { node = b.node; slot = n }) (eqb-true a.slot b.slot two.1)

lookup_without : (s t : Addr → Bool) (pages : List (Addr × Page)) → ((x : Addr) → s x ≡ true → t x ≡ false)
    → lookup s (remove_entry t pages) ≡ lookup s pages
lookup_without s t [] apart = refl
lookup_without s t (p ∷ pages) apart = by (s p.0) (t p.0) refl refl (lookup_without s t pages apart)
  where
    by : (a b : Bool) → s p.0 ≡ a → t p.0 ≡ b → lookup s (remove_entry t pages) ≡ lookup s pages
        → lookup s (if b then pages else p ∷ remove_entry t pages) ≡ (if a then Some p.1 else lookup s pages)
    by true true e f rest = let g : t p.0 ≡ false = apart p.0 e in absurd cc
    by false true e f rest = refl
    by true false e f rest = subst (λ (x : Bool). (if x then Some p.1 else lookup s (remove_entry t pages)) ≡ Some p.1) (sym e) refl
    by false false e f rest = subst (λ (x : Bool). (if x then Some p.1 else lookup s (remove_entry t pages)) ≡ lookup s pages) (sym e) rest

used_keeps : (a b : Addr) (pages : List (Addr × Page)) → page_at a (pages_used b pages) ≡ page_at a pages
used_keeps a b pages = by (page_at b pages) refl
  where
    by : (o : Option Page) → page_at b pages ≡ o
        → page_at a (option_map_or (λ page. (b, page) ∷ pages_without b pages) o pages) ≡ page_at a pages
    by None e = refl
    by (Some page) e = at (addr_same a b) refl
      where
        other : addr_same a b ≡ false → (x : Addr) → addr_same a x ≡ true → addr_same b x ≡ false
        other f x g = no (addr_same b x) refl
          where
            no : (d : Bool) → addr_same b x ≡ d → d ≡ false
            no false h = refl
            no true h =
                let same : a ≡ b = tells_apart a x g ∙ sym (tells_apart b x h) in
                let itself : addr_same a x ≡ addr_same b x = ap (λ (y : Addr). addr_same y x) same in
                let both : addr_same a b ≡ true = subst (λ (y : Addr). addr_same a y ≡ true) (sym (tells_apart b x h)) g in
                absurd cc

        at : (d : Bool) → addr_same a b ≡ d → (if d then Some page else page_at a (pages_without b pages)) ≡ page_at a pages
        at true f = sym e ∙ ap (λ (y : Addr). page_at y pages) (sym (tells_apart a b f))
        at false f = lookup_without (addr_same a) (addr_same b) pages (other f)

all_keep : (a : Addr) (addrs : List Addr) (pages : List (Addr × Page)) → page_at a (used_all addrs pages) ≡ page_at a pages
all_keep a [] pages = refl
all_keep a (b ∷ addrs) pages = all_keep a addrs (pages_used b pages) ∙ used_keeps a b pages

pub used_keep : (a : Addr) (before after : List (Addr × Page)) → AreUsed before after → page_at a after ≡ page_at a before
used_keep a before after used = ap (page_at a) used.after_is ∙ all_keep a used.addrs before

-- Walks

pub walks_still : (entries : List CatEntry) (before after : List (Addr × Page)) (key : List ℕ) (d : Descent)
    (pages : List Page) (leaf : Descent) → AreUsed before after → WalksDown entries before key d pages leaf
    → WalksDown entries after key d pages leaf
walks_still entries before after key d [] leaf used walks = walks
walks_still entries before after key d (page ∷ pages) leaf used walks = (
  used_keep d.addr before after used ∙ walks.0,
  walks.1,
  walks_still entries before after key (gone_below d page.body key) pages leaf used walks.2,
)

at_still : (before after : List (Addr × Page)) (d : Descent) → AreUsed before after → IsAtLeaf before d → IsAtLeaf after d
at_still before after d used (inl low) = inl low
at_still before after d used (inr (root, none)) = inr (root, used_keep d.addr before after used ∙ none)

-- the walk leads to the same leaf once some are used
pub leads_still : (before after : Known) (key : List ℕ) (d leaf : Descent) → after.nodes ≡ before.nodes
    → after.catalog ≡ before.catalog → AreUsed before.cache after.cache → LeadsTo before key d leaf
    → LeadsTo after key d leaf
leads_still before after key d leaf nodes catalog used leads = record {
  entries = leads.entries;
  catalog = catalog ∙ leads.catalog;
  pages = leads.pages;
  walks = walks_still leads.entries before.cache after.cache key d leads.pages leaf used leads.walks;
  at = at_still before.cache after.cache leaf used leads.at;
  there = subst (λ (n : ℕ). leaf.addr.node.0 < n) (sym nodes) leads.there;
}

-- the heights of a page that a walk goes on at
pub stands_by : (parents : List (Option ℕ)) (v : ℕ) (key : List ℕ) (above : Option ℕ) (page : Page)
    → is_on_path parents v key above (front_of page) ≡ true
    → (is_below above (height_of page.body) ≡ true) × (nat_le (height_of page.body) max_height ≡ true)
stands_by parents v key above page on =
    let parts = both_parts (is_live parents v page.made.0 page.copied)
    (covers_key page.low page.high key && may_stand above (height_of page.body)) on in
    let rest = both_parts (covers_key page.low page.high key) (may_stand above (height_of page.body)) parts.1 in
    both_parts (is_below above (height_of page.body)) (nat_le (height_of page.body) max_height) rest.1

stands : (entries : List CatEntry) (d : Descent) (key : List ℕ) (page : Page)
    → is_on_way entries d key (front_of page) ≡ true
    → (is_below d.above (height_of page.body) ≡ true) × (nat_le (height_of page.body) max_height ≡ true)
stands entries d key page on = stands_by (parents_of (heads_in entries)) d.version.0 key d.above page on

-- so it is lower than the one before
pub lower_by : (above : Option ℕ) (height : ℕ) → is_below above height ≡ true → nat_le height max_height ≡ true
    → IsLower above (Some height)
lower_by above height below low = (grind (arith, nat_tests), under above below)
  where
    under : (o : Option ℕ) → is_below o height ≡ true → MatchOption o ⊤ (λ a. height + 1 ≡ a)
    under None e = tt
    under (Some a) e = eqb-true (height + 1) a e

lower_in : (d : Descent) (key : List ℕ) (body : Body) → 1 ≤ height_of body → is_below d.above (height_of body) ≡ true
    → nat_le (height_of body) max_height ≡ true → IsLower d.above (gone_below d body key).above
lower_in d key (Leaf pairs) some below low = absurd (omega arith)
lower_in d key (Inner height first rest) some below low = lower_by d.above height below low

pub goes_lower : (entries : List CatEntry) (d : Descent) (key : List ℕ) (page : Page) → 1 ≤ height_of page.body
    → is_on_way entries d key (front_of page) ≡ true → IsLower d.above (gone_below d page.body key).above
goes_lower entries d key page high on =
    let stand = stands entries d key page on in
    lower_in d key page.body high stand.0 stand.1

-- below a page of height 1 the walk has come to its leaf
pub low_leaf : (known : Known) (key : List ℕ) (d leaf : Descent) → ArePages known.cache → d.above ≡ Some 1
    → LeadsTo known key d leaf → leaf ≡ d
low_leaf known key d leaf are low leads = by leads.pages leads.walks
  where
    by : (pages : List Page) → WalksDown leads.entries known.cache key d pages leaf → leaf ≡ d
    by [] walks = walks
    by (page ∷ pages) walks =
        let high : 1 ≤ height_of page.body = (found d.addr known.cache page are walks.0).1 in
        let below : is_below (Some 1) (height_of page.body) ≡ true =
        subst (λ (o : Option ℕ). is_below o (height_of page.body) ≡ true) low (stands leads.entries d key page walks.1).0 in
        let same : height_of page.body + 1 ≡ 1 = eqb-true (height_of page.body + 1) 1 below in
        absurd (omega arith)

-- so it has where no page is cached
pub none_leaf : (known : Known) (key : List ℕ) (d leaf : Descent) → page_at d.addr known.cache ≡ None
    → LeadsTo known key d leaf → leaf ≡ d
none_leaf known key d leaf none leads = by leads.pages leads.walks
  where
    by : (pages : List Page) → WalksDown leads.entries known.cache key d pages leaf → leaf ≡ d
    by [] walks = walks
    by (page ∷ pages) walks = let both : Some page ≡ None = sym walks.0 ∙ none in absurd cc

-- else it goes on at the page that is
pub record Leads (known : Known) (key : List ℕ) (d leaf : Descent) (page : Page) (entries : List CatEntry) : Type 0 where
  pub on : is_on_way entries d key (front_of page) ≡ true
  pub leads : LeadsTo known key (gone_below d page.body key) leaf
  pub lower : IsLower d.above (gone_below d page.body key).above

pub some_leads : (known : Known) (key : List ℕ) (d leaf : Descent) (page : Page) (entries : List CatEntry) → ArePages known.cache
    → d.above ≢ Some 1 → page_at d.addr known.cache ≡ Some page → known.catalog ≡ Some entries
    → LeadsTo known key d leaf → Leads known key d leaf page entries
some_leads known key d leaf page entries are high some catalog leads = by leads.pages leads.walks
  where
    same_entries : leads.entries ≡ entries
    same_entries = let both : Some leads.entries ≡ Some entries = sym leads.catalog ∙ catalog in cc

    never : IsAtLeaf known.cache d → ⊥
    never (inl low) = high low
    never (inr (root, none)) = let both : Some page ≡ None = sym some ∙ none in absurd cc

    by : (pages : List Page) → WalksDown leads.entries known.cache key d pages leaf → Leads known key d leaf page entries
    by [] walks = absurd (never (subst (IsAtLeaf known.cache) walks leads.at))
    by (p ∷ pages) walks =
        let same : p ≡ page = (let both : Some p ≡ Some page = sym walks.0 ∙ some in cc) in
        let on : is_on_way leads.entries d key (front_of page) ≡ true = subst (λ (q : Page). is_on_way leads.entries d key (front_of q) ≡ true) same walks.1 in
        record {
          on = subst (λ (l : List CatEntry). is_on_way l d key (front_of page) ≡ true) same_entries on;
          leads = record {
            entries = leads.entries;
            catalog = leads.catalog;
            pages = pages;
            walks = subst (λ (q : Page). WalksDown leads.entries known.cache key (gone_below d q.body key) pages leaf) same walks.2;
            at = leads.at;
            there = leads.there;
          };
          lower = goes_lower leads.entries d key page (found d.addr known.cache page are some).1 on;
        }

-- Levels

-- after so many pages it is so low
abbrev pub HasGone : ℕ → Option ℕ → Type 0
HasGone level above = 1 ≤ level → (height : ℕ) × (above ≡ Some height) × (height + level ≤ 15)

pub gone_on : (level : ℕ) (before after : Option ℕ) → HasGone level before → IsLower before after → HasGone (level + 1) after
gone_on level before None gone lower = absurd lower
gone_on level before (Some height) gone lower = λ some. (height, refl, by before gone lower.1)
  where
    by : (o : Option ℕ) → HasGone level o → MatchOption o ⊤ (λ a. height + 1 ≡ a) → height + (level + 1) ≤ 15
    by None none all = at (level) none
      where
        at : (n : ℕ) → HasGone n None → height + (n + 1) ≤ 15
        at zero none = omega (arith, lower.0)
        at (suc n) none = let (h, is, few) = none (omega arith) in absurd cc
    by (Some a) gone same = at level gone
      where
        at : (n : ℕ) → HasGone n (Some a) → height + (n + 1) ≤ 15
        at zero none = omega (arith, lower.0)
        at (suc n) some = let (h, is, few) = some (omega arith) in let e : a ≡ h = cc in omega arith

-- after 15 it would be lower than any page
pub all_gone : (above : Option ℕ) → HasGone 15 above → IsAbove above → ⊥
all_gone None gone high = let (h, is, few) = gone (omega arith) in absurd cc
all_gone (Some a) gone high = let (h, is, few) = gone (omega arith) in let e : a ≡ h = cc in absurd (omega arith)

pub gone_none : (above : Option ℕ) → HasGone 0 above
gone_none above some = absurd (omega arith)

-- the same as the code finds it
pub on_way_as : (d : Descent) (entries : List CatEntry) (key : List ℕ) (page : Page) (tree : List (Option ℕ))
    (front : FrontState) (found : Bool) → tree ≡ parents_of (heads_in entries) → front ≡ front_of page
    → found ≡ is_on_path tree d.version.0 key d.above front → found ≡ is_on_way entries d key (front_of page)
on_way_as d entries key page tree front found tree_is front_is is =
    is ∙ (ap (λ (t : List (Option ℕ)). is_on_path t d.version.0 key d.above front) tree_is
    ∙ ap (λ (f : FrontState). is_on_path (parents_of (heads_in entries)) d.version.0 key d.above f) front_is)
