-- Where a test fails, those before it have passed.
use Rattle.std.proofs.Common.{◌≡◌, ◌<◌, ◌≤◌, ◌⊎◌, inl, inr, ℕ, zero, suc, Bool, true, false, List, Option, refl, sym, subst, arith}
use Rattle.mn_page.specs.declared.entry.CatEntry.{CatEntry}
use Rattle.std.specs.Prelude.{MatchBool}
use Rattle.mn_base.proofs.Naturals.{below_or}
use Rattle.mn_forest.specs.declared.error.ForestError.{ForestError}
use Rattle.mn_forest.specs.declared.error.ForestError.TheVariants.{Broken}
use Rattle.mn_flat.specs.Votes.{numbered}
use Rattle.mn_forest.specs.Rules.{Test, OfHeader, OfCount, OfEntry, OfRoot, OfPage, OfChildren, OfReach, IsTest, Passes, Precedes, start_at, rule_of, entry_place, HasEntryAt, HasRootAt}
use Rattle.mn_forest.specs.Progress.{HasFront, HasEntriesTo, HasSlotsTo, PassesAll, SaysFailed}

-- the tests before the next entry
pub before_entry : (memory : List (List ℕ)) (es : List (Option CatEntry)) (n k : ℕ) → k < 64 → HasFront memory n → HasEntriesTo memory es n k → (u : Test) → IsTest u → Precedes u (OfEntry k) → Passes memory es n u
before_entry memory es n k low front to OfHeader is less = front.0
before_entry memory es n k low front to OfCount is less = front.1
before_entry memory es n k low front to (OfEntry w) is less = (to w (omega arith)).0
before_entry memory es n k low front to (OfRoot w) is less = (to w (omega arith)).1
before_entry memory es n k low front to (OfPage s) is less = absurd (omega arith)
before_entry memory es n k low front to (OfChildren s) is less = absurd (omega arith)
before_entry memory es n k low front to (OfReach s) is less = absurd (omega arith)

same_at : (P : ℕ → Type 0) (w k : ℕ) → w ≡ k → P k → P w
same_at P w k e = subst P (sym e)

pub before_root : (memory : List (List ℕ)) (es : List (Option CatEntry)) (n k : ℕ) → k < 64 → HasFront memory n → HasEntriesTo memory es n k → Passes memory es n (OfEntry k) → (u : Test) → IsTest u → Precedes u (OfRoot k)
    → Passes memory es n u
before_root memory es n k low front to here OfHeader is less = front.0
before_root memory es n k low front to here OfCount is less = front.1
before_root memory es n k low front to here (OfEntry w) is less = by (below_or w k)
  where
    by : (w < k) ⊎ (k ≤ w) → Passes memory es n (OfEntry w)
    by (inl older) = (to w older).0
    by (inr high) = same_at (λ j. Passes memory es n (OfEntry j)) w k (let e : w ≡ k = omega arith in e) here
before_root memory es n k low front to here (OfRoot w) is less = (to w (omega arith)).1
before_root memory es n k low front to here (OfPage s) is less = absurd (omega arith)
before_root memory es n k low front to here (OfChildren s) is less = absurd (omega arith)
before_root memory es n k low front to here (OfReach s) is less = absurd (omega arith)

pub before_page : (memory : List (List ℕ)) (es : List (Option CatEntry)) (n k : ℕ) → HasFront memory n → HasEntriesTo memory es n 64 → HasSlotsTo memory es n k → (u : Test) → IsTest u → Precedes u (OfPage k) → Passes memory es n u
before_page memory es n k front entries to OfHeader is less = front.0
before_page memory es n k front entries to OfCount is less = front.1
before_page memory es n k front entries to (OfEntry w) is less = (entries w is).0
before_page memory es n k front entries to (OfRoot w) is less = (entries w is).1
before_page memory es n k front entries to (OfPage s) is less = (to s (omega arith)).0
before_page memory es n k front entries to (OfChildren s) is less = (to s (omega arith)).1
before_page memory es n k front entries to (OfReach s) is less = (to s (omega arith)).2

pub before_children : (memory : List (List ℕ)) (es : List (Option CatEntry)) (n k : ℕ) → HasFront memory n → HasEntriesTo memory es n 64 → HasSlotsTo memory es n k → Passes memory es n (OfPage k)
    → (u : Test) → IsTest u → Precedes u (OfChildren k) → Passes memory es n u
before_children memory es n k front entries to here OfHeader is less = front.0
before_children memory es n k front entries to here OfCount is less = front.1
before_children memory es n k front entries to here (OfEntry w) is less = (entries w is).0
before_children memory es n k front entries to here (OfRoot w) is less = (entries w is).1
before_children memory es n k front entries to here (OfPage s) is less = by (below_or s k)
  where
    by : (s < k) ⊎ (k ≤ s) → Passes memory es n (OfPage s)
    by (inl older) = (to s older).0
    by (inr high) = same_at (λ j. Passes memory es n (OfPage j)) s k (let e : s ≡ k = omega arith in e) here
before_children memory es n k front entries to here (OfChildren s) is less = (to s (omega arith)).1
before_children memory es n k front entries to here (OfReach s) is less = (to s (omega arith)).2

pub before_reach : (memory : List (List ℕ)) (es : List (Option CatEntry)) (n k : ℕ) → HasFront memory n → HasEntriesTo memory es n 64 → HasSlotsTo memory es n k → Passes memory es n (OfPage k) → Passes memory es n (OfChildren k)
    → (u : Test) → IsTest u → Precedes u (OfReach k) → Passes memory es n u
before_reach memory es n k front entries to here next OfHeader is less = front.0
before_reach memory es n k front entries to here next OfCount is less = front.1
before_reach memory es n k front entries to here next (OfEntry w) is less = (entries w is).0
before_reach memory es n k front entries to here next (OfRoot w) is less = (entries w is).1
before_reach memory es n k front entries to here next (OfPage s) is less = by (below_or s k)
  where
    by : (s < k) ⊎ (k ≤ s) → Passes memory es n (OfPage s)
    by (inl older) = (to s older).0
    by (inr high) = same_at (λ j. Passes memory es n (OfPage j)) s k (let e : s ≡ k = omega arith in e) here
before_reach memory es n k front entries to here next (OfChildren s) is less = by (below_or s k)
  where
    by : (s < k) ⊎ (k ≤ s) → Passes memory es n (OfChildren s)
    by (inl older) = (to s older).1
    by (inr high) = same_at (λ j. Passes memory es n (OfChildren j)) s k (let e : s ≡ k = omega arith in e) next
before_reach memory es n k front entries to here next (OfReach s) is less = (to s (omega arith)).2

-- what is said where a test fails

pub says_at : (memory : List (List ℕ)) (es : List (Option CatEntry)) (n : ℕ) (t : Test) (e : ForestError) → e ≡ Broken (numbered n) (start_at t) (rule_of t) → IsTest t → (Passes memory es n t → ⊥)
    → ((u : Test) → IsTest u → Precedes u t → Passes memory es n u) → SaysFailed memory es n e
says_at memory es n t e is test failed before =
    subst (λ (x : ForestError). SaysFailed memory es n x) (sym is) (refl, record { t = t; test = test; start_is = refl; rule_is = refl; failed = failed; before = before })

pub at_header : (memory : List (List ℕ)) (es : List (Option CatEntry)) (n : ℕ) (u : Test) → IsTest u → Precedes u OfHeader → Passes memory es n u
at_header memory es n OfHeader is less = absurd (omega arith)
at_header memory es n OfCount is less = absurd (omega arith)
at_header memory es n (OfEntry w) is less = absurd (omega arith)
at_header memory es n (OfRoot w) is less = absurd (omega arith)
at_header memory es n (OfPage s) is less = absurd (omega arith)
at_header memory es n (OfChildren s) is less = absurd (omega arith)
at_header memory es n (OfReach s) is less = absurd (omega arith)

pub at_count : (memory : List (List ℕ)) (es : List (Option CatEntry)) (n : ℕ) → Passes memory es n OfHeader → (u : Test) → IsTest u → Precedes u OfCount → Passes memory es n u
at_count memory es n here OfHeader is less = here
at_count memory es n here OfCount is less = absurd (omega arith)
at_count memory es n here (OfEntry w) is less = absurd (omega arith)
at_count memory es n here (OfRoot w) is less = absurd (omega arith)
at_count memory es n here (OfPage s) is less = absurd (omega arith)
at_count memory es n here (OfChildren s) is less = absurd (omega arith)
at_count memory es n here (OfReach s) is less = absurd (omega arith)

pub all_pass : (memory : List (List ℕ)) (es : List (Option CatEntry)) (n : ℕ) → HasFront memory n → HasEntriesTo memory es n 64 → HasSlotsTo memory es n 4096 → PassesAll memory es n
all_pass memory es n front entries to OfHeader is = front.0
all_pass memory es n front entries to OfCount is = front.1
all_pass memory es n front entries to (OfEntry w) is = (entries w is).0
all_pass memory es n front entries to (OfRoot w) is = (entries w is).1
all_pass memory es n front entries to (OfPage s) is = (to s is).0
all_pass memory es n front entries to (OfChildren s) is = (to s is).1
all_pass memory es n front entries to (OfReach s) is = (to s is).2

-- nodes behind the first

pub same_entry : (memory : List (List ℕ)) (es : List (Option CatEntry)) (n w : ℕ) → 1 ≤ n → entry_place memory n w ≡ entry_place memory 0 w → HasEntryAt memory es n w × HasRootAt memory es n w
same_entry memory es zero w some is = absurd (omega arith)
same_entry memory es (suc n) w some is = (is, tt)

pub other_entry : (memory : List (List ℕ)) (es : List (Option CatEntry)) (n w : ℕ) → 1 ≤ n → (entry_place memory n w ≡ entry_place memory 0 w → ⊥) → HasEntryAt memory es n w → ⊥
other_entry memory es zero w some differ h = absurd (omega arith)
other_entry memory es (suc n) w some differ h = differ h

-- a test by its answer
pub fails_so : (P : Type 0) (b : Bool) → MatchBool b P (P → ⊥) → b ≡ false → P → ⊥
fails_so P true m e = absurd cc
fails_so P false m e = m

pub passes_so : (P : Type 0) (b : Bool) → MatchBool b P (P → ⊥) → b ≡ true → P
passes_so P true m e = m
passes_so P false m e = absurd cc
