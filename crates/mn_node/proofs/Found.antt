-- What a log has of a node's records.
use Rattle.std.proofs.Common.{◌≡◌, ◌≢◌, ◌≤◌, ◌<◌, ◌+◌, ℕ, zero, suc, List, [], ◌∷◌, ◌++◌, length, take, get_or, Option, Some, None, inl, inr, refl, ap, sym, ◌∙◌, subst, arith, length-append}
use Rattle.std.specs.List.{AllByRecursion}
use Rattle.std.proofs.lemmas.List.{take_more, take_all, map-append}
use Rattle.mn_mini.specs.declared.record.Record.{Record}
use Rattle.mn_mini.specs.RecordGrammar.{IsRecord, record_bytes}
use Rattle.mn_node.specs.Node.{bodies_of, added_to}
use Rattle.mn_node.specs.declared.restart.RestartError.{RestartError}
use Rattle.mn_node.specs.declared.restart.RestartError.TheVariants.{Fault, Damaged, NoMemory}
use Rattle.std.specs.Prelude.{◌⊎◌}
use Rattle.mn_redo.specs.Log.{FrontState}
use Rattle.mn_node.specs.Restart.{AreAbsent, TellsOtherRecords, TellsDifferenceAt, IsBadBody, DamageNames, IsFirstDifference, IsSpelledAt, BeginsWithRecords, AreBodiesWithPending, AreOtherBodies, DiffersFirstAt, record_at}

-- the first bodies are those of the first records
pub record BeginAlike (n : ℕ) (bodies : List (List ℕ)) (records : List Record) : Type 0 where
  pub within : n ≤ length bodies
  pub first : take n bodies ≡ bodies_of (take n records)

pub size_of : (records : List Record) → length (bodies_of records) ≡ length records
size_of [] = refl
size_of (r ∷ records) = ap suc (size_of records)

pub one_front : (n : ℕ) (bodies : List (List ℕ)) (records : List Record) (r : Record) → BeginAlike n bodies records → n < length bodies → n < length records → r ≡ get_or records n r → get_or bodies n [] ≡ record_bytes r
    → BeginAlike (n + 1) bodies records
one_front n bodies records r front less few is same = record {
  within = omega (arith, less);
  first =
      take_more bodies n [] less ∙ ap (λ (l : List (List ℕ)). l ++ get_or bodies n [] ∷ []) front.first ∙ ap (λ (b : List ℕ). bodies_of (take n records) ++ b ∷ []) same
      ∙ sym (map-append record_bytes (take n records) (r ∷ [])) ∙ sym (ap bodies_of (take_more records n r few ∙ ap (λ (x : Record). take n records ++ x ∷ []) (sym is)));
}

pub whole_front : (n : ℕ) (bodies : List (List ℕ)) (records : List Record) → BeginAlike n bodies records → length records ≤ n → n ≤ length records → BeginsWithRecords bodies records
whole_front n bodies records front most least =
    let same : n ≡ length records = omega (arith, most, least) in record {
      no_fewer = omega (arith, front.within, least, most);
      first = ap (λ (k : ℕ). take k bodies) (sym same) ∙ front.first ∙ ap bodies_of (take_all n records most);
    }

body_at : (bodies : List (List ℕ)) (records : List Record) (n : ℕ) (r : Record) → BeginsWithRecords bodies records → n < length records → get_or bodies n [] ≡ record_bytes (get_or records n r)
body_at bodies records n r front less = get_first bodies (length records) n (omega (arith, less)) ∙ ap (λ (l : List (List ℕ)). get_or l n []) front.first ∙ of records n r less
  where
    get_first : (bodies : List (List ℕ)) (k n : ℕ) → n < k → get_or bodies n [] ≡ get_or (take k bodies) n []
    get_first [] zero n less = refl
    get_first [] (suc k) n less = refl
    get_first (b ∷ bodies) zero n less = absurd (omega (arith, less))
    get_first (b ∷ bodies) (suc k) zero less = refl
    get_first (b ∷ bodies) (suc k) (suc n) less = get_first bodies k n (omega (arith, less))

    of : (records : List Record) (n : ℕ) (r : Record) → n < length records → get_or (bodies_of records) n [] ≡ record_bytes (get_or records n r)
    of [] n r less = absurd (omega (arith, less))
    of (x ∷ records) zero r less = refl
    of (x ∷ records) (suc n) r less = of records n r (omega (arith, less))

-- a record that the log has not
pub other_at : (bodies : List (List ℕ)) (records : List Record) (n : ℕ) (r : Record) → n < length records → r ≡ get_or records n r → get_or bodies n [] ≢ record_bytes r → BeginsWithRecords bodies records → ⊥
other_at bodies records n r less is other front = other (body_at bodies records n r front less ∙ sym (ap record_bytes is))

-- a log that is listed begins with the records
pub listed_front : (bodies : List (List ℕ)) (records : List Record) → bodies ≡ bodies_of records → BeginsWithRecords bodies records
listed_front bodies records e = record {
  no_fewer = omega (arith, ap (λ (l : List (List ℕ)). length l) e, size_of records);
  first = ap (λ (l : List (List ℕ)). take (length records) l) e ∙ take_all (length records) (bodies_of records) (omega (arith, size_of records));
}

take_before : {X : Type 0} (xs ys : List X) (n : ℕ) → length xs ≡ n → take n (xs ++ ys) ≡ xs
take_before [] ys zero e = refl
take_before [] ys (suc n) e = absurd cc
take_before (x ∷ xs) ys zero e = absurd cc
take_before {X = X} (x ∷ xs) ys (suc n) e = ap (λ (l : List X). x ∷ l) (take_before xs ys n (omega (arith, e)))

pub left_front : (bodies : List (List ℕ)) (records : List Record) (pending : Option Record) → AreBodiesWithPending bodies records pending → BeginsWithRecords bodies records
left_front bodies records None e = absurd e
left_front bodies records (Some r) e =
    let split : bodies ≡ bodies_of records ++ record_bytes r ∷ [] = e ∙ map-append record_bytes records (r ∷ []) in record {
      no_fewer = omega (arith, ap (λ (l : List (List ℕ)). length l) split, length-append (bodies_of records) (record_bytes r ∷ []), size_of records);
      first = ap (λ (l : List (List ℕ)). take (length records) l) split ∙ take_before (bodies_of records) (record_bytes r ∷ []) (length records) (size_of records);
    }

pub other_front : (bodies : List (List ℕ)) (records : List Record) (pending : Option Record) → (BeginsWithRecords bodies records → ⊥) → AreOtherBodies bodies records pending
other_front bodies records pending never = (λ e. never (listed_front bodies records e), λ e. never (left_front bodies records pending e))

-- with more bodies than records the records alone are not the log's
pub not_alone : (bodies : List (List ℕ)) (records : List Record) → length records < length bodies → bodies ≢ bodies_of records
not_alone bodies records more e = let none : ⊥ = omega (arith, more, ap (λ (l : List (List ℕ)). length l) e, size_of records) in none

pub not_left : (bodies : List (List ℕ)) (records : List Record) (r : Record) → get_or bodies (length records) [] ≢ record_bytes r → bodies ≡ bodies_of (records ++ r ∷ []) → ⊥
not_left bodies records r other e = other (ap (λ (l : List (List ℕ)). get_or l (length records) []) (e ∙ map-append record_bytes records (r ∷ [])) ∙ at (bodies_of records) (length records) (size_of records))
  where
    at : (xs : List (List ℕ)) (n : ℕ) → length xs ≡ n → get_or (xs ++ record_bytes r ∷ []) n [] ≡ record_bytes r
    at [] zero e = refl
    at [] (suc n) e = absurd cc
    at (x ∷ xs) zero e = absurd cc
    at (x ∷ xs) (suc n) e = at xs n (omega (arith, e))

pub too_many : (bodies : List (List ℕ)) (records : List Record) (r : Record) → length records + 1 < length bodies → bodies ≡ bodies_of (records ++ r ∷ []) → ⊥
too_many bodies records r more e =
    let none : ⊥ = omega (arith, more, ap (λ (l : List (List ℕ)). length l) (e ∙ map-append record_bytes records (r ∷ [])), length-append (bodies_of records) (record_bytes r ∷ []), size_of records) in none

-- the record behind the others
pub last_sound : (records : List Record) (r : Record) → AllByRecursion IsRecord (records ++ r ∷ []) → IsRecord r
last_sound [] r p = p.0
last_sound (x ∷ records) r p = last_sound records r p.1

pub first_sound : (records : List Record) (pending : Option Record) → AllByRecursion IsRecord (added_to records pending) → AllByRecursion IsRecord records
first_sound records None p = p
first_sound records (Some r) p = of records p
  where
    of : (xs : List Record) → AllByRecursion IsRecord (xs ++ r ∷ []) → AllByRecursion IsRecord xs
    of [] p = tt
    of (x ∷ xs) p = (p.0, of xs p.1)

pub pending_sound : (records : List Record) (pending : Option Record) (r : Record) → pending ≡ Some r → AllByRecursion IsRecord (added_to records pending) → IsRecord r
pending_sound records pending r e p = last_sound records r (subst (λ (o : Option Record). AllByRecursion IsRecord (added_to records o)) e p)

-- what a difference says

record_of : (records : List Record) (at : ℕ) (r : Record) → at < length records → record_at records at ≡ Some (get_or records at r)
record_of [] at r less = absurd (omega (arith, less))
record_of (x ∷ records) zero r less = refl
record_of (x ∷ records) (suc at) r less = record_of records at r (omega (arith, less))

record_past : (records : List Record) (at : ℕ) → length records ≤ at → record_at records at ≡ None
record_past [] at past = refl
record_past (x ∷ records) zero past = absurd (omega (arith, past))
record_past (x ∷ records) (suc at) past = record_past records at (omega (arith, past))

record_before : (records : List Record) (pending : Option Record) (at : ℕ) → at < length records → record_at (added_to records pending) at ≡ record_at records at
record_before records None at less = refl
record_before records (Some r) at less = of records at less
  where
    of : (xs : List Record) (n : ℕ) → n < length xs → record_at (xs ++ r ∷ []) n ≡ record_at xs n
    of [] n less = absurd (omega (arith, less))
    of (x ∷ xs) zero less = refl
    of (x ∷ xs) (suc n) less = of xs n (omega (arith, less))

take_before_added : (records : List Record) (pending : Option Record) (at : ℕ) → at ≤ length records → take at (added_to records pending) ≡ take at records
take_before_added records None at less = refl
take_before_added records (Some r) at less = of records at less
  where
    of : (xs : List Record) (n : ℕ) → n ≤ length xs → take n (xs ++ r ∷ []) ≡ take n xs
    of xs zero less = refl
    of [] (suc n) less = absurd (omega (arith, less))
    of (x ∷ xs) (suc n) less = ap (λ (l : List Record). x ∷ l) (of xs n (omega (arith, less)))

last_at : (records : List Record) (r : Record) → record_at (records ++ r ∷ []) (length records) ≡ Some r
last_at [] r = refl
last_at (x ∷ records) r = last_at records r

pub unsome : (r q : Record) → Some r ≡ Some q → r ≡ q
unsome r q e = cc

-- the record that a body spells is not one with other bytes
other_record : (bodies : List (List ℕ)) (at : ℕ) (found : Option Record) (r : Record) → IsSpelledAt bodies at found → (at < length bodies → get_or bodies at [] ≢ record_bytes r) → found ≢ Some r
other_record bodies at None r is other e = cc
other_record bodies at (Some q) r is other e = other is.0 (is.1.spelled ∙ ap record_bytes (unsome q r e))

-- a body is there
some_record : (bodies : List (List ℕ)) (at : ℕ) (found : Option Record) → IsSpelledAt bodies at found → at < length bodies → found ≢ None
some_record bodies at None is less e = let none : ⊥ = omega (arith, is, less) in none
some_record bodies at (Some q) is less e = cc

damage : {start : ℕ} {bodies : List (List ℕ)} {records : List Record} {pending : Option Record} {at : ℕ} (place : ℕ) (named found kept : Option Record)
    → (AreAbsent named found × IsBadBody start bodies place) ⊎ ((place ≡ at) × (named ≡ kept) × IsSpelledAt bodies at found)
    → (IsSpelledAt bodies at found → IsFirstDifference bodies records pending at kept found) → DamageNames start bodies records pending place named found
damage place named found kept (inl none) first = inl none
damage {bodies = bodies} {records = records} {pending = pending} place named found kept (inr told) first =
    inr (subst (λ (k : Option Record). IsFirstDifference bodies records pending place k found) (sym told.1) (subst (λ (n : ℕ). IsFirstDifference bodies records pending n kept found) (sym told.0) (first told.2)))

pub front_otherwise : (bodies : List (List ℕ)) (records : List Record) (at : ℕ) (r : Record) → at < length records → r ≡ get_or records at r → DiffersFirstAt bodies records at → BeginsWithRecords bodies records → ⊥
front_otherwise bodies records at r less is other front = other.other (omega (arith, less, front.no_fewer)) r is (body_at bodies records at r front less ∙ sym (ap record_bytes is))

-- the records alone are the log's, or not

pub not_so_many : (bodies : List (List ℕ)) (records : List Record) → length bodies ≢ length records → bodies ≢ bodies_of records
not_so_many bodies records other e = other (ap (λ (l : List (List ℕ)). length l) e ∙ size_of records)

pub whole_list : (bodies : List (List ℕ)) (records : List Record) → length bodies ≡ length records → BeginsWithRecords bodies records → bodies ≡ bodies_of records
whole_list bodies records size front = sym (take_all (length records) bodies (omega (arith, size))) ∙ front.first

index_of_itself : (records : List Record) (at : ℕ) (r : Record) → at < length records → get_or records at r ≡ get_or records at (get_or records at r)
index_of_itself [] at r less = absurd (omega (arith, less))
index_of_itself (x ∷ records) zero r less = refl
index_of_itself (x ∷ records) (suc at) r less = index_of_itself records at r (omega (arith, less))

pub differs_somewhere : (bodies : List (List ℕ)) (records : List Record) (at : ℕ) → at < length records → DiffersFirstAt bodies records at → bodies ≢ bodies_of records
differs_somewhere bodies [] at less other e = absurd (omega (arith, less))
differs_somewhere bodies (x ∷ records) at less other e =
    front_otherwise bodies (x ∷ records) at (get_or (x ∷ records) at x) less (index_of_itself (x ∷ records) at x less) other (listed_front bodies (x ∷ records) e)

pub differs_front : (log : FrontState) (records : List Record) (pending : Option Record) (at : ℕ) (r : Record) (e : RestartError) → at < length records → DiffersFirstAt log.bodies records at → r ≡ get_or records at r
    → TellsDifferenceAt log at (Some r) e → TellsOtherRecords log records pending e
differs_front log records pending at r Fault less other is told = absurd told
differs_front log records pending at r NoMemory less other is told = tt
differs_front log records pending at r (Damaged place named found) less other is told =
    let here : record_at records at ≡ Some r = record_of records at r less ∙ ap Some (sym is) in (
      other_front log.bodies records pending (front_otherwise log.bodies records at r less is other),
      damage place named found (Some r) told (λ f. record {
        kept_is = sym here;
        found_is = f;
        before = other.first ∙ ap bodies_of (sym (take_before_added records pending at (omega (arith, less))));
        differs = λ e. other_record log.bodies at found r f (λ there. other.other there r is) (e ∙ record_before records pending at less ∙ here);
      }),
    )

-- behind the records
pub differs_behind : (log : FrontState) (records : List Record) (pending : Option Record) (e : RestartError) → BeginsWithRecords log.bodies records → length records < length log.bodies
    → AreOtherBodies log.bodies records pending → ((r : Record) → pending ≡ Some r → get_or log.bodies (length records) [] ≢ record_bytes r) → TellsDifferenceAt log (length records) None e → TellsOtherRecords log records pending e
differs_behind log records pending Fault front more never other told = absurd told
differs_behind log records pending NoMemory front more never other told = tt
differs_behind log records pending (Damaged place named found) front more never other told = (
  never,
  damage place named found None told (λ f. record {
    kept_is = sym (record_past records (length records) (omega arith));
    found_is = f;
    before = front.first ∙ ap bodies_of (sym (take_before_added records pending (length records) (omega arith) ∙ take_all (length records) records (omega arith)));
    differs = behind pending other f;
  }),
)
  where
    behind : (p : Option Record) → ((r : Record) → p ≡ Some r → get_or log.bodies (length records) [] ≢ record_bytes r) → IsSpelledAt log.bodies (length records) found → found ≢ record_at (added_to records p) (length records)
    behind None other f e = some_record log.bodies (length records) found f more (e ∙ record_past records (length records) (omega arith))
    behind (Some r) other f e = other_record log.bodies (length records) found r f (λ there. other r refl) (e ∙ last_at records r)

-- behind the records and the one more
pub differs_past : (log : FrontState) (records : List Record) (r : Record) (e : RestartError) → BeginsWithRecords log.bodies records → length records + 1 < length log.bodies
    → get_or log.bodies (length records) [] ≡ record_bytes r → TellsDifferenceAt log (length records + 1) None e → TellsOtherRecords log records (Some r) e
differs_past log records r Fault front more same told = absurd told
differs_past log records r NoMemory front more same told = tt
differs_past log records r (Damaged place named found) front more same told =
    let size : length (records ++ r ∷ []) ≡ length records + 1 = omega (arith, length-append records (r ∷ [])) in (
      (not_alone log.bodies records (omega (arith, more)), too_many log.bodies records r more),
      damage place named found None told (λ f. record {
        kept_is = sym (record_past records (length records + 1) (omega arith));
        found_is = f;
        before =
            take_more log.bodies (length records) [] (omega (arith, more)) ∙ ap (λ (l : List (List ℕ)). l ++ get_or log.bodies (length records) [] ∷ []) front.first
            ∙ ap (λ (b : List ℕ). bodies_of records ++ b ∷ []) same ∙ sym (map-append record_bytes records (r ∷ []))
            ∙ ap bodies_of (sym (take_all (length records + 1) (records ++ r ∷ []) (omega (arith, size))));
        differs = λ e. some_record log.bodies (length records + 1) found f more (e ∙ record_past (records ++ r ∷ []) (length records + 1) (omega (arith, size)));
      }),
    )
