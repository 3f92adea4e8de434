-- Operations at their places: up to each place the store holds that those before it leave, and each
-- reply is the store's there.
use Rattle.std.proofs.Common.{◌≡◌, ℕ, suc, ◌+◌, ◌<◌, ◌≤◌, ◌⊎◌, inl, inr, Bool, true, false, List, [], ◌∷◌, ◌++◌, refl, subst, sym, arith, if◌then◌else◌}
use Rattle.std.specs.Prelude.{nat_lt}
use Rattle.std.proofs.lemmas.Bool.Decides.{nat_tests}
use Rattle.mn_base.specs.Store.{Store, applied}
use Rattle.mn_base.specs.History.{IsLegal, store_after}
use Rattle.mn_base.specs.declared.history.Past.{Past}
use Rattle.mn_base.proofs.Naturals.{below_or}
use Rattle.mn_serial.specs.History.{Placed, placed_in, pasts_of}

-- from a place on, with this store there: it holds up to the next operation, whose reply is the
-- store's, and behind that the store that it leaves goes on, at the same place, or at the next one
-- where a plan is committed
abbrev pub Chain : (ℕ → Store → Type 0) → (ℕ → Type 0) → ℕ → Store → ℕ → List Placed → Type 0
Chain H P end store from [] = (m : ℕ) → from ≤ m → m ≤ end → H m store
Chain H P end store from (p ∷ ps) =
    (from ≤ p.place) × (p.place < end) × ((m : ℕ) → from ≤ m → m ≤ p.place → H m store)
    × (p.past.reply ≡ (applied store p.past.op).reply)
    × ((after : ℕ) × (p.place ≤ after) × (after ≤ p.place + 1) × (p.place < after → P p.place) × Chain H P end (applied store p.past.op).store after ps)

pub chain_legal : (H : ℕ → Store → Type 0) (P : ℕ → Type 0) (end : ℕ) (store : Store) (from : ℕ) (ps : List Placed) → Chain H P end store from ps → IsLegal store (pasts_of ps)
chain_legal H P end store from [] c = tt
chain_legal H P end store from (p ∷ ps) c = (c.3, chain_legal H P end (applied store p.past.op).store c.4.0 ps c.4.4)

-- the last store holds at the end
pub chain_end : (H : ℕ → Store → Type 0) (P : ℕ → Type 0) (end : ℕ) (store : Store) (from : ℕ) (ps : List Placed) → from ≤ end → Chain H P end store from ps → H end (store_after store (pasts_of ps))
chain_end H P end store from [] fits c = c end fits (omega arith)
chain_end H P end store from (p ∷ ps) fits c =
    let low : p.place < end = c.1 in
    let high : c.4.0 ≤ p.place + 1 = c.4.2 in
    chain_end H P end (applied store p.past.op).store c.4.0 ps (omega arith) c.4.4

-- some operations lead to a store that holds at a place
pub chain_at : (H : ℕ → Store → Type 0) (P : ℕ → Type 0) (end : ℕ) (store : Store) (from : ℕ) (ps : List Placed) (n : ℕ) → from ≤ n → n ≤ end → Chain H P end store from ps
    → (history : List Past) × H n (store_after store history)
chain_at H P end store from [] n low high c = ([], c n low high)
chain_at H P end store from (p ∷ ps) n low high c = by (below_or p.place n) (λ fits. chain_at H P end (applied store p.past.op).store c.4.0 ps n fits high c.4.4)
  where
    by : (p.place < n) ⊎ (n ≤ p.place)
        → (c.4.0 ≤ n → (history : List Past) × H n (store_after (applied store p.past.op).store history)) → (history : List Past) × H n (store_after store history)
    by (inl behind) rest =
        let next : c.4.0 ≤ p.place + 1 = c.4.2 in
        let r = rest (omega arith) in (p.past ∷ r.0, r.1)
    by (inr before) rest = ([], c.2 n low before)

-- from a store at one place some operations lead to one at a later place
abbrev pub Between : (ℕ → Store → Type 0) → ℕ → ℕ → Type 0
Between H m n = (store : Store) × (history : List Past) × H m store × H n (store_after store history)

pub chain_between : (H : ℕ → Store → Type 0) (P : ℕ → Type 0) (end : ℕ) (store : Store) (from : ℕ) (ps : List Placed) (m n : ℕ) → from ≤ m → m ≤ n → n ≤ end → Chain H P end store from ps → Between H m n
chain_between H P end store from [] m n low up high c = (store, [], c m low (omega arith), c n (omega arith) high)
chain_between H P end store from (p ∷ ps) m n low up high c = by (below_or p.place m) (λ fits. chain_between H P end (applied store p.past.op).store c.4.0 ps m n fits up high c.4.4)
  where
    by : (p.place < m) ⊎ (m ≤ p.place) → (c.4.0 ≤ m → Between H m n) → Between H m n
    by (inl behind) rest = let next : c.4.0 ≤ p.place + 1 = c.4.2 in rest (omega arith)
    by (inr before) rest = let r = chain_at H P end store from (p ∷ ps) n (omega arith) high c in (store, r.0, c.2 m low before, r.1)

-- a read that leaves the store alone is put in by its place, which is no plan's
pub chain_put : (H : ℕ → Store → Type 0) (P : ℕ → Type 0) (end : ℕ) (store : Store) (from : ℕ) (ps : List Placed) (read : Placed)
    → ((s : Store) → H read.place s → (read.past.reply ≡ (applied s read.past.op).reply) × ((applied s read.past.op).store ≡ s))
    → (P read.place → ⊥) → from ≤ read.place → read.place < end → Chain H P end store from ps
    → Chain H P end store from (placed_in read ps)
chain_put H P end store from [] read silent free low high c =
    let here = silent store (c read.place low (omega arith)) in (
      low,
      high,
      (λ m lo hi. c m lo (omega arith)),
      here.0,
      (read.place, omega arith, omega arith, (λ less. absurd (omega arith)), (λ m lo hi. subst (λ (s : Store). H m s) (sym here.1) (c m (omega arith) hi))),
    )
chain_put H P end store from (x ∷ xs) read silent free low high c =
    by (nat_lt read.place x.place) refl (λ fits. chain_put H P end (applied store x.past.op).store c.4.0 xs read silent free fits high c.4.4)
  where
    next : (read.place < c.4.0) ⊎ (c.4.0 ≤ read.place) → x.place ≤ read.place → c.4.0 ≤ read.place
    next (inr fits) behind = fits
    next (inl past) behind =
        let last : c.4.0 ≤ x.place + 1 = c.4.2 in
        let same : x.place ≡ read.place = omega arith in
        absurd (free (subst P same (c.4.3 (omega arith))))

    by : (b : Bool) → nat_lt read.place x.place ≡ b
        → (c.4.0 ≤ read.place → Chain H P end (applied store x.past.op).store c.4.0 (placed_in read xs))
        → Chain H P end store from (if b then read ∷ x ∷ xs else x ∷ placed_in read xs)
    by true e rest =
        let first : read.place < x.place = grind (arith, nat_tests) in
        let here = silent store (c.2 read.place low (omega arith)) in (
          low,
          high,
          (λ m lo hi. c.2 m lo (omega arith)),
          here.0,
          (
            read.place,
            omega arith,
            omega arith,
            (λ less. absurd (omega arith)),
            subst (λ (s : Store). Chain H P end s read.place (x ∷ xs)) (sym here.1) (omega arith, c.1, (λ m lo hi. c.2 m (omega arith) hi), c.3, c.4),
          ),
        )
    by false e rest =
        let behind : x.place ≤ read.place = grind (arith, nat_tests) in
        (c.0, c.1, c.2, c.3, (c.4.0, c.4.1, c.4.2, c.4.3, rest (next (below_or read.place c.4.0) behind)))

-- the log goes on by an entry that leaves the memory's store
pub chain_quiet : (H H' : ℕ → Store → Type 0) (P P' : ℕ → Type 0) (end : ℕ)
    → ((m : ℕ) (s : Store) → m ≤ end → H m s → H' m s) → ((k : ℕ) → P k → P' k)
    → ((s : Store) → H end s → H' (suc end) s)
    → (store : Store) (from : ℕ) (ps : List Placed) → from ≤ end → Chain H P end store from ps
    → Chain H' P' (suc end) store from ps
chain_quiet H H' P P' end older plans newest store from [] fits c = λ m lo hi. by m lo hi (below_or m (suc end))
  where
    by : (m : ℕ) → from ≤ m → m ≤ suc end → (m < suc end) ⊎ (suc end ≤ m) → H' m store
    by m lo hi (inl less) = older m store (omega arith) (c m lo (omega arith))
    by m lo hi (inr last) = let same : suc end ≡ m = omega arith in subst (λ (k : ℕ). H' k store) same (newest store (c end fits (omega arith)))
chain_quiet H H' P P' end older plans newest store from (p ∷ ps) fits c =
    let low : p.place < end = c.1 in
    let high : c.4.0 ≤ p.place + 1 = c.4.2 in (
      c.0,
      omega arith,
      (λ m lo hi. older m store (omega arith) (c.2 m lo hi)),
      c.3,
      (c.4.0, c.4.1, c.4.2, (λ less. plans p.place (c.4.3 less)), chain_quiet H H' P P' end older plans newest (applied store p.past.op).store c.4.0 ps (omega arith) c.4.4),
    )

-- the log goes on by an entry that commits a plan
pub chain_commit : (H H' : ℕ → Store → Type 0) (P P' : ℕ → Type 0) (end : ℕ) (past : Past)
    → ((m : ℕ) (s : Store) → m ≤ end → H m s → H' m s) → ((k : ℕ) → P k → P' k)
    → ((s : Store) → H end s → (past.reply ≡ (applied s past.op).reply) × H' (suc end) (applied s past.op).store) → P' end
    → (store : Store) (from : ℕ) (ps : List Placed) → from ≤ end → Chain H P end store from ps
    → Chain H' P' (suc end) store from (ps ++ record { place = end; past = past } ∷ [])
chain_commit H H' P P' end past older plans commit is store from [] fits c =
    let here = commit store (c end fits (omega arith)) in (
      fits,
      omega arith,
      (λ m lo hi. older m store hi (c m lo hi)),
      here.0,
      (
        suc end,
        omega arith,
        omega arith,
        (λ less. is),
        (λ m lo hi. let same : suc end ≡ m = omega arith in subst (λ (k : ℕ). H' k (applied store past.op).store) same here.1),
      ),
    )
chain_commit H H' P P' end past older plans commit is store from (p ∷ ps) fits c =
    let low : p.place < end = c.1 in
    let high : c.4.0 ≤ p.place + 1 = c.4.2 in (
      c.0,
      omega arith,
      (λ m lo hi. older m store (omega arith) (c.2 m lo hi)),
      c.3,
      (c.4.0, c.4.1, c.4.2, (λ less. plans p.place (c.4.3 less)), chain_commit H H' P P' end past older plans commit is (applied store p.past.op).store c.4.0 ps (omega arith) c.4.4),
    )
