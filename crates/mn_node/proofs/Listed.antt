-- A list whose first records are shortened.
use Rattle.std.proofs.Common.{◌≡◌, ◌≤◌, ◌+◌, ◌∙◌, ℕ, zero, suc, List, [], ◌∷◌, ◌++◌, length, take, drop, Option, Some, None, refl, ap, sym, subst, inl, inr, arith}
use Rattle.std.specs.List.{AllByRecursion}
use Rattle.std.proofs.Math.Seq.{take-length, drop-length}
use Rattle.std.proofs.lemmas.List.{take-append-le, drop-append-le, append-nil, append_assoc}
use Rattle.mn_base.proofs.Lists.{all_append}
use Rattle.mn_redo.specs.Grammar.{Stands}
use Rattle.mn_mini.specs.declared.record.Record.{Record}
use Rattle.mn_mini.specs.Laws.{ShortKeepsGrammar}
use Rattle.mn_mini.specs.RecordGrammar.{IsRecord}
use Rattle.mn_mini.specs.Short.{short}
use Rattle.mn_node.specs.Node.{IsEither, IsUpToWithOrWithout, StandsUpTo, added_to, bodies_of, listed}

pub listed_none : (records : List Record) → listed 0 records ≡ records
listed_none records = refl

pub listed_all : (records : List Record) → listed (length records) records ≡ short records
listed_all records =
    ap (λ (l : List Record). short l ++ drop (length records) records) (take-length records)
    ∙ ap (λ (l : List Record). short records ++ l) (drop-length records)
    ∙ append-nil (short records)

-- a record behind them stands as it is
pub listed_more : (cut : ℕ) (records : List Record) (r : Record) → cut ≤ length records → listed cut (records ++ r ∷ []) ≡ listed cut records ++ r ∷ []
listed_more cut records r within =
    ap (λ (l : List Record). short l ++ drop cut (records ++ r ∷ [])) (take-append-le cut records (r ∷ []) within)
    ∙ ap (λ (l : List Record). short (take cut records) ++ l) (drop-append-le cut records (r ∷ []) within)
    ∙ sym (append_assoc (short (take cut records)) (drop cut records) (r ∷ []))

pub listed_added : (cut : ℕ) (records : List Record) (added : Option Record) → cut ≤ length records → listed cut (added_to records added) ≡ added_to (listed cut records) added
listed_added cut records None within = refl
listed_added cut records (Some r) within = listed_more cut records r within

-- they are in the grammar
pub first_sound : (n : ℕ) (records : List Record) → AllByRecursion IsRecord records → AllByRecursion IsRecord (take n records)
first_sound zero records sound = tt
first_sound (suc n) [] sound = tt
first_sound (suc n) (r ∷ records) sound = (sound.0, first_sound n records sound.1)

rest_sound : (n : ℕ) (records : List Record) → AllByRecursion IsRecord records → AllByRecursion IsRecord (drop n records)
rest_sound zero records sound = sound
rest_sound (suc n) [] sound = tt
rest_sound (suc n) (r ∷ records) sound = rest_sound n records sound.1

pub listed_sound : ShortKeepsGrammar → (cut : ℕ) (records : List Record) → AllByRecursion IsRecord records → AllByRecursion IsRecord (listed cut records)
listed_sound keeps cut records sound = all_append IsRecord (short (take cut records)) (drop cut records) (keeps (take cut records) (first_sound cut records sound)) (rest_sound cut records sound)

-- What a disk stands for

pub up_to : (node nodes : ℕ) (c : List ℕ) (cut : ℕ) (records : List Record) → cut ≤ length records → Stands node nodes c (bodies_of (listed cut records)) → StandsUpTo node nodes c records
up_to node nodes c cut records within stands = record { cut = cut; within = within; stands = stands }

length_more : (records : List Record) (added : Option Record) → length records ≤ length (added_to records added)
length_more records None = omega arith
length_more [] (Some r) = omega arith
length_more (s ∷ records) (Some r) = let more = length_more records (Some r) in omega (arith, more)

-- with the record that was added behind them or not
pub up_to_either : (node nodes : ℕ) (c : List ℕ) (cut : ℕ) (records : List Record) (added : Option Record) → cut ≤ length records → IsEither node nodes (listed cut records) (added_to (listed cut records) added) c
    → IsUpToWithOrWithout node nodes records added c
up_to_either node nodes c cut records added within (inl stands) = inl (up_to node nodes c cut records within stands)
up_to_either node nodes c cut records added within (inr stands) =
    let more = length_more records added in
    inr (up_to node nodes c cut (added_to records added) (omega (arith, within, more)) (subst (λ (l : List Record). Stands node nodes c (bodies_of l)) (sym (listed_added cut records added within)) stands))

-- all of them shortened or as before
pub up_to_short : (node nodes : ℕ) (c : List ℕ) (cut : ℕ) (records : List Record) (added : Option Record) → cut ≤ length records → IsEither node nodes (listed cut records) (short records) c → IsUpToWithOrWithout node nodes records added c
up_to_short node nodes c cut records added within (inl stands) = inl (up_to node nodes c cut records within stands)
up_to_short node nodes c cut records added within (inr stands) =
    inl (up_to node nodes c (length records) records (omega arith) (subst (λ (l : List Record). Stands node nodes c (bodies_of l)) (sym (listed_all records)) stands))
