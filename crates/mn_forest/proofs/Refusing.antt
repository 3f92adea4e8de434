-- What the tests of all nodes say, one node after the other.
use Rattle.std.proofs.Common.{◌≡◌, ◌<◌, ◌≤◌, ◌+◌, inl, inr, ℕ, zero, suc, List, [], ◌∷◌, ◌++◌, length, drop, map, Option, Some, None, refl, ap, sym, subst, ◌∙◌, arith, slice_get, append-nil, append_assoc}
use Rattle.std.specs.Prelude.{option_map}
use Rattle.mn_base.specs.Tree.{parents_of}
use Rattle.mn_base.specs.declared.ids.VersionNo.{VersionNo}
use Rattle.mn_base.proofs.Naturals.{below_or}
use Rattle.mn_vtree.specs.Parents.{numbers_of}
use Rattle.mn_page.specs.declared.entry.CatEntry.{CatEntry}
use Rattle.mn_page.specs.Forest.{heads_in, parent_number}
use Rattle.mn_forest.specs.declared.error.ForestError.{ForestError}
use Rattle.mn_forest.specs.declared.error.ForestError.TheVariants.{Broken, NoMemory}
use Rattle.mn_forest.specs.Rules.{Says, Passes, AllPass, entries_of}
use Rattle.mn_forest.specs.Progress.{PassesAll, SaysFailed}
use Rattle.mn_forest.specs.Refusal.{RefusesMemory}

-- nodes before this one pass
abbrev pub PassBelow : List (List ℕ) → List (Option CatEntry) → ℕ → Type 0
PassBelow memory es n = (m : ℕ) → m < n → PassesAll memory es m

-- the first failed test of a node is the first of all, where the nodes before it pass
pub refused : (memory : List (List ℕ)) (es : List (Option CatEntry)) (n : ℕ) (e : ForestError) → Says memory es → n < length memory → PassBelow memory es n → SaysFailed memory es n e → RefusesMemory memory e
refused memory es n (Broken node start rule) says in' below said =
    let f = said.1 in
    let same = said.0 in
    record {
      es = es;
      says = says;
      t = f.t;
      first = record {
        node = (let here : node.0 ≡ n = said.0 in omega arith);
        test = f.test;
        failed = λ passes. f.failed (subst (λ (k : ℕ). Passes memory es k f.t) same passes);
        nodes = λ m u low is. below m (let here : node.0 ≡ n = said.0 in omega arith) u is;
        before = λ u is precedes. subst (λ (k : ℕ). Passes memory es k u) (sym same) (f.before u is precedes);
      };
      start_is = f.start_is;
      rule_is = f.rule_is;
    }
refused memory es n NoMemory says in' below said = tt

pub below_next : (memory : List (List ℕ)) (es : List (Option CatEntry)) (n : ℕ) → PassBelow memory es n → PassesAll memory es n → PassBelow memory es (n + 1)
below_next memory es n below here m low = elim (below_or m n) as (λ _. PassesAll memory es m) [
  | inl less ↦ below m less
  | inr high ↦ subst (λ (k : ℕ). PassesAll memory es k) (let e : n ≡ m = omega arith in e) here
]

pub below_first : (memory : List (List ℕ)) (es : List (Option CatEntry)) → PassesAll memory es 0 → PassBelow memory es 1
below_first memory es here m low = subst (λ (k : ℕ). PassesAll memory es k) (let e : 0 ≡ m = omega arith in e) here

pub below_all : (memory : List (List ℕ)) (es : List (Option CatEntry)) (n : ℕ) → length memory ≤ n → PassBelow memory es n → AllPass memory es
below_all memory es n last below m t in' is = below m (omega arith) t is

-- Entries up to the first place without one

pub rest_used : (es : List (Option CatEntry)) (i : ℕ) (e : CatEntry) → slice_get es i ≡ Some (Some e) → entries_of (drop i es) ≡ e ∷ entries_of (drop (i + 1) es)
rest_used [] i e is = absurd cc
rest_used (o ∷ es) zero e is = let same : o ≡ Some e = cc in ap (λ (x : Option CatEntry). entries_of (x ∷ es)) same
rest_used (o ∷ es) (suc i) e is = rest_used es i e is ∙ ap (λ (k : ℕ). e ∷ entries_of (drop k (o ∷ es))) (let h : suc (i + 1) ≡ suc i + 1 = omega arith in h)

pub rest_none : (es : List (Option CatEntry)) (i : ℕ) → slice_get es i ≡ Some None → entries_of (drop i es) ≡ []
rest_none [] i is = absurd cc
rest_none (o ∷ es) zero is = let same : o ≡ None = cc in ap (λ (x : Option CatEntry). entries_of (x ∷ es)) same
rest_none (o ∷ es) (suc i) is = rest_none es i is

pub rest_over : (es : List (Option CatEntry)) (i : ℕ) → length es ≤ i → entries_of (drop i es) ≡ []
rest_over [] zero high = refl
rest_over [] (suc i) high = refl
rest_over (o ∷ es) zero high = absurd (omega arith)
rest_over (o ∷ es) (suc i) high = rest_over es i (omega arith)

-- as many as the places at most
pub entries_few : (es : List (Option CatEntry)) → length (entries_of es) ≤ length es
entries_few [] = omega arith
entries_few (None ∷ es) = omega arith
entries_few (Some x ∷ es) = let rest = entries_few es in omega arith

-- so far these were taken, and with the rest they are all
abbrev pub Taken : {X : Type 0} → (CatEntry → X) → List (Option CatEntry) → List X → List X → ℕ → Type 0
Taken {X} f es first now i = now ++ map f (entries_of (drop i es)) ≡ first ++ map f (entries_of es)

pub taken_one : {X : Type 0} (f : CatEntry → X) (es : List (Option CatEntry)) (first now new : List X) (i : ℕ) (e : CatEntry) → Taken f es first now i → slice_get es i ≡ Some (Some e) → new ≡ now ++ f e ∷ [] → Taken f es first new (i + 1)
taken_one {X} f es first now new i e so is more =
    ap (λ (l : List X). l ++ map f (entries_of (drop (i + 1) es))) more ∙ (append_assoc now (f e ∷ []) (map f (entries_of (drop (i + 1) es))) ∙ (ap (λ (l : List CatEntry). now ++ map f l) (sym (rest_used es i e is)) ∙ so))

pub taken_all : {X : Type 0} (f : CatEntry → X) (es : List (Option CatEntry)) (first now : List X) (i : ℕ) → Taken f es first now i → entries_of (drop i es) ≡ [] → now ≡ first ++ map f (entries_of es)
taken_all {X} f es first now i so none = sym (append-nil now) ∙ (ap (λ (l : List CatEntry). now ++ map f l) (sym none) ∙ so)

-- The tree of the entries

pub numbers_are : (entries : List CatEntry) → numbers_of (map (λ e. e.parent) entries) ≡ parents_of (heads_in entries)
numbers_are [] = refl
numbers_are (e ∷ es) = let here = one e.parent in let rest = numbers_are es in cc
  where
    one : (o : Option VersionNo) → option_map (λ v. v.0) o ≡ parent_number o
    one None = refl
    one (Some v) = refl
