-- What every place of a run keeps of the contents of a page's or an entry's place.
use Rattle.std.proofs.Common.{◌≡◌, ℕ, ◌+◌, ◌<◌, ◌≤◌, ◌⊎◌, inl, inr, true, List, [], ◌∷◌, ◌++◌, take, refl, subst, sym, ap, ◌∙◌, arith}
use Rattle.std.specs.List.{AllByRecursion}
use Rattle.mn_base.specs.declared.ids.Tid.{Tid}
use Rattle.std.specs.Prelude.{Bool}
use Rattle.mn_mini.specs.Node.{HeldPart, held_parts}
use Rattle.mn_runs.specs.declared.entry.Entry.{Entry}
use Rattle.mn_runs.specs.Seen.{Place}
use Rattle.mn_law.specs.Places.{number_in, WritesWhole}
use Rattle.mn_runs.specs.Protocol.{Start, records_of}
use Rattle.mn_serial.specs.Settled.{flat_content, own_content, HadContent, PlaceIsSettled}
use Rattle.mn_commits.proofs.Bytes.Even.{comm}
use Rattle.mn_serial.proofs.Settled.Numbers.{front_tells}

-- what is held and so writes greater numbers than these bytes have
abbrev pub GreaterIn : Place → (Tid → Bool) → List ℕ → List HeldPart → Type 0
GreaterIn place f old hs = AllByRecursion (λ h. f h.tid ≡ true → AllByRecursion (WritesWhole place (λ bytes. number_in old < number_in bytes)) h.part) hs

abbrev pub HoldsGreater : Start → List Entry → Place → Type 0
HoldsGreater start past place = GreaterIn place (comm start past) (own_content start past place) (held_parts (records_of start past place.node))

-- each content that the place had is the one that it has in the flat memory, or has a lower number
pub record KeptAt (start : Start) (past : List Entry) (place : Place) : Type 0 where
  pub below : (bytes : List ℕ) → HadContent start past place bytes → (bytes ≡ flat_content start past place) ⊎ (number_in bytes < number_in (flat_content start past place))
  pub settled : PlaceIsSettled start past place
  pub greater : HoldsGreater start past place

-- what an entry does to the contents: in the flat memory it leaves them, or gives a greater number;
-- in the node's space it leaves them, or brings the flat memory's
abbrev pub FlatStep : Start → List Entry → Entry → Place → Type 0
FlatStep start past e place = (flat_content start (e ∷ past) place ≡ flat_content start past place) ⊎ (number_in (flat_content start past place) < number_in (flat_content start (e ∷ past) place))

abbrev pub OwnStep : Start → List Entry → Entry → Place → Type 0
OwnStep start past e place = (own_content start (e ∷ past) place ≡ own_content start past place) ⊎ (own_content start (e ∷ past) place ≡ flat_content start (e ∷ past) place)

tail_of : {X : Type 0} (x y : X) (xs ys : List X) → ◌≡◌ {A = List X} (x ∷ xs) (y ∷ ys) → xs ≡ ys
tail_of x y xs ys e = cc

-- a content after the entry is the flat memory's, or was there before
had : (start : Start) (past : List Entry) (e : Entry) (place : Place) → OwnStep start past e place → (bytes : List ℕ) → HadContent start (e ∷ past) place bytes → (bytes ≡ flat_content start (e ∷ past) place) ⊎ HadContent start past place bytes
had start past e place own bytes ([], before, split, inl is) = inl (is ∙ ap (λ (es : List Entry). flat_content start es place) (sym split))
had start past e place own bytes ([], before, split, inr is) = by own
  where
    here : bytes ≡ own_content start (e ∷ past) place
    here = is ∙ ap (λ (es : List Entry). own_content start es place) (sym split)

    by : OwnStep start past e place → (bytes ≡ flat_content start (e ∷ past) place) ⊎ HadContent start past place bytes
    by (inl same) = inr ([], past, refl, inr (here ∙ same))
    by (inr flat) = inl (here ∙ flat)
had start past e place own bytes (x ∷ later, before, split, which) = inr (later, before, tail_of e x past (later ++ before) split, which)

module _ (start : Start) (past : List Entry) (e : Entry) (place : Place) (kept : KeptAt start past place) (own : OwnStep start past e place) where
  -- where the flat memory's content stays, there is no new content
  stays : flat_content start (e ∷ past) place ≡ flat_content start past place → (bytes : List ℕ) → HadContent start (e ∷ past) place bytes → HadContent start past place bytes
  stays same bytes h = by (had start past e place own bytes h)
    where
      by : (bytes ≡ flat_content start (e ∷ past) place) ⊎ HadContent start past place bytes → HadContent start past place bytes
      by (inl is) = ([], past, refl, inl (is ∙ same))
      by (inr older) = older

  -- where it gets a greater number, that is above all that were
  above : number_in (flat_content start past place) < number_in (flat_content start (e ∷ past) place) → (bytes : List ℕ) → HadContent start past place bytes → number_in bytes < number_in (flat_content start (e ∷ past) place)
  above more bytes h = by (kept.below bytes h)
    where
      by : (bytes ≡ flat_content start past place) ⊎ (number_in bytes < number_in (flat_content start past place)) → number_in bytes < number_in (flat_content start (e ∷ past) place)
      by (inl is) = let same = ap number_in is in omega (arith, same, more)
      by (inr less) = omega (arith, less, more)

  below_on : FlatStep start past e place → (bytes : List ℕ) → HadContent start (e ∷ past) place bytes → (bytes ≡ flat_content start (e ∷ past) place) ⊎ (number_in bytes < number_in (flat_content start (e ∷ past) place))
  below_on (inl same) bytes h = subst (λ (l : List ℕ). (bytes ≡ l) ⊎ (number_in bytes < number_in l)) (sym same) (kept.below bytes (stays same bytes h))
  below_on (inr more) bytes h = by (had start past e place own bytes h)
    where
      by : (bytes ≡ flat_content start (e ∷ past) place) ⊎ HadContent start past place bytes → (bytes ≡ flat_content start (e ∷ past) place) ⊎ (number_in bytes < number_in (flat_content start (e ∷ past) place))
      by (inl is) = inl is
      by (inr older) = inr (above more bytes older)

  one_on : FlatStep start past e place → (a b : List ℕ) → HadContent start (e ∷ past) place a → HadContent start (e ∷ past) place b → take 8 a ≡ take 8 b → a ≡ b
  one_on (inl same) a b x y front = kept.settled.one a b (stays same a x) (stays same b y) front
  one_on (inr more) a b x y front = by (had start past e place own a x) (had start past e place own b y)
    where
      number : number_in a ≡ number_in b
      number = front_tells a b front

      by : (a ≡ flat_content start (e ∷ past) place) ⊎ HadContent start past place a → (b ≡ flat_content start (e ∷ past) place) ⊎ HadContent start past place b → a ≡ b
      by (inl p) (inl q) = p ∙ sym q
      by (inl p) (inr q) = let low = above more b q in let high = ap number_in p in absurd (omega (arith, low, high, number))
      by (inr p) (inl q) = let low = above more a p in let high = ap number_in q in absurd (omega (arith, low, high, number))
      by (inr p) (inr q) = kept.settled.one a b p q front

  rises_on : FlatStep start past e place → (later between before : List Entry) → e ∷ past ≡ later ++ (between ++ before) → number_in (flat_content start before place) ≤ number_in (flat_content start (between ++ before) place)
  rises_on step [] between before split = by (below_on step (flat_content start before place) (between, before, split, inl refl))
    where
      whole : number_in (flat_content start (e ∷ past) place) ≡ number_in (flat_content start (between ++ before) place)
      whole = ap (λ (es : List Entry). number_in (flat_content start es place)) split

      by : (flat_content start before place ≡ flat_content start (e ∷ past) place) ⊎ (number_in (flat_content start before place) < number_in (flat_content start (e ∷ past) place)) → number_in (flat_content start before place) ≤ number_in (flat_content start (between ++ before) place)
      by (inl is) = let same = ap number_in is in omega (arith, same, whole)
      by (inr less) = omega (arith, less, whole)
  rises_on step (x ∷ later) between before split = kept.settled.rises later between before (tail_of e x past (later ++ (between ++ before)) split)

  pub kept_on : FlatStep start past e place → HoldsGreater start (e ∷ past) place → KeptAt start (e ∷ past) place
  kept_on step greater = record { below = below_on step; settled = record { one = one_on step; rises = rises_on step }; greater = greater }
