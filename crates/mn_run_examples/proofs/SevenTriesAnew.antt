-- Nor are seven failed tries enough where the first read the catalog: it then looked at the leaf,
-- as no later try does.
use Rattle.std.proofs.Common.{◌≡◌, ℕ, ◌+◌, ◌≤◌, ◌⊎◌, inl, inr, Bool, true, false, not, ◌&&◌, List, [], ◌∷◌, ◌++◌, length, filter, if◌then◌else◌, refl, subst, sym, ap, ◌∙◌, arith}
use Rattle.std.specs.List.{list_any, list_all, flat_map, AllByRecursion}
use Rattle.std.proofs.lemmas.List.{append_assoc, append-nil, length-append}
use Rattle.std.proofs.lemmas.List.Elements.{filter-append}
use Rattle.mn_base.specs.declared.answer.Busy.{Busy}
use Rattle.mn_base.specs.declared.answer.Answer.TheVariants as Gives
use Rattle.mn_base.proofs.Booleans.{left_true, right_true}
use Rattle.mn_mini.specs.declared.request.Request.TheVariants as Ask
use Rattle.mn_mini.specs.declared.reply.NodeReply.TheVariants as Say
use Rattle.mn_mini.specs.Mini.{part_of}
use Rattle.mn_runs.specs.declared.entry.Entry.{Entry}
use Rattle.mn_runs.specs.declared.entry.What.TheVariants as Did
use Rattle.mn_runs.specs.Calls.{Call, calls_of}
use Rattle.mn_law.specs.Places.{catalog_place}
use Rattle.mn_runs.specs.Seen.{seen_in}
use Rattle.mn_law.specs.Answers.{is_peek, reads_anew, RefusedAs, FailsAs, ShowsAnswer}
use Rattle.mn_run_examples.proofs.TwoNodes.{node, id, prepare}
use Rattle.mn_run_examples.proofs.Entries.{read_of, own, called, exec_read, issue_read, seen_in_part, only}
use Rattle.mn_runs.proofs.NewCalls.{calls_append}
use Rattle.mn_run_examples.proofs.Tries.{catalog_bytes, catalog_seen, leaf_bytes, put, plan, locked, six_tries, first_try}
use Rattle.mn_run_examples.proofs.SoundReads.{no_fault}
use Rattle.mn_run_examples.proofs.SevenTries.{times_asked, asked_append, anew_asks}

-- How often a list peeks

abbrev times_peeked : List Entry → ℕ
times_peeked es = length (filter (λ c. is_peek c.request) (calls_of es))

peeked_append : (xs ys : List Entry) → times_peeked (xs ++ ys) ≡ times_peeked xs + times_peeked ys
peeked_append xs ys =
    ap (λ (l : List Call). length (filter (λ c. is_peek c.request) l)) (calls_append xs ys)
    ∙ (ap (λ (l : List Call). length l) (filter-append (λ (c : Call). is_peek c.request) (calls_of xs) (calls_of ys)) ∙ length-append (filter (λ (c : Call). is_peek c.request) (calls_of xs)) (filter (λ (c : Call). is_peek c.request) (calls_of ys)))

none_peeks : (cs : List Call) → list_all (λ c. not (is_peek c.request)) cs ≡ true
    → length (filter (λ (c : Call). is_peek c.request) cs) ≡ 0
none_peeks [] e = refl
none_peeks (c ∷ cs) e = by (none_peeks cs) (is_peek c.request) e
  where
    by : (list_all (λ c. not (is_peek c.request)) cs ≡ true → length (filter (λ (c : Call). is_peek c.request) cs) ≡ 0) → (b : Bool) → (not b && list_all (λ c. not (is_peek c.request)) cs) ≡ true
        → length (if b then c ∷ filter (λ (c : Call). is_peek c.request) cs else filter (λ (c : Call). is_peek c.request) cs) ≡ 0
    by more true f = absurd cc
    by more false f = more f

anew_peeks : (try : List Entry) → reads_anew try ≡ true → times_peeked try ≡ 0
anew_peeks try e = none_peeks (calls_of try) (right_true (list_any _ (calls_of try)) _ e)

-- Where a list is cut in two ways

cut_twice : (z tail y s : List Entry) → z ++ tail ≡ y ++ s
    → ((k : List Entry) × (y ≡ z ++ k) × (tail ≡ k ++ s)) ⊎ ((w : List Entry) × (s ≡ w ++ tail))
cut_twice [] tail y s e = inl (y, refl, e)
cut_twice (a ∷ z) tail [] s e = inr (a ∷ z, sym e)
cut_twice (a ∷ z) tail (b ∷ y) s e =
    let heads : a ≡ b = cc in
    let tails : z ++ tail ≡ y ++ s = cc in
    elim (cut_twice z tail y s tails) as (λ _. ((k : List Entry) × (b ∷ y ≡ (a ∷ z) ++ k) × (tail ≡ k ++ s)) ⊎ ((w : List Entry) × (s ≡ w ++ tail))) [
      | inl c ↦ inl (c.0, ap (λ (x : Entry). x ∷ y) (sym heads) ∙ ap (λ (l : List Entry). a ∷ l) c.1, c.2)
      | inr c ↦ inr c
    ]

-- The oldest of the later tries

record Oldest (nodes : ℕ) (taken : List Entry) (tries : List (List Entry)) : Type 0 where
  newer : List Entry
  try : List Entry
  cause : Busy
  split : flat_map (λ t. t) tries ≡ newer ++ try
  anew : reads_anew try ≡ true
  fails : FailsAs nodes put taken try cause
  asked : length tries ≤ times_asked newer + 1

oldest_of : (nodes : ℕ) (taken : List Entry) (tries : List (List Entry)) → 1 ≤ length tries
    → list_all reads_anew tries ≡ true
    → AllByRecursion (λ t. (cause : Busy) × FailsAs nodes put taken t cause) tries
    → Oldest nodes taken tries
oldest_of nodes taken [] some anew fail = absurd (omega arith)
oldest_of nodes taken (t ∷ []) some anew fail =
    record { newer = []; try = t; cause = fail.0.0; split = append-nil t; anew = left_true (reads_anew t) _ anew; fails = fail.0.1; asked = omega arith }
oldest_of nodes taken (t ∷ (u ∷ ts)) some anew fail =
    let more = oldest_of nodes taken (u ∷ ts) (omega arith) (right_true (reads_anew t) _ anew) fail.1 in
    record {
      newer = t ++ more.newer;
      try = more.try;
      cause = more.cause;
      split = ap (λ (l : List Entry). t ++ l) more.split ∙ sym (append_assoc t more.newer more.try);
      anew = more.anew;
      fails = more.fails;
      asked = let one = anew_asks t (left_true (reads_anew t) _ anew) in let sum = asked_append t more.newer in let asked = more.asked in omega arith;
    }

-- Seven tries, the first of which read the catalog and then looked at the leaf

abbrev seven_tries : List Entry
seven_tries = locked.after 18 ++ flat_map (λ try. try) six_tries ++ first_try

abbrev newest : List Entry
newest = locked.after 18 ++ flat_map (λ try. try) six_tries ++ called 0 (prepare 0 2 plan 0) (Say.BadLock 128 64 (id 1 1)) ∷ own (Did.Issue (id 0 2) plan) ∷ []

abbrev looks : Entry
looks = called 1 (Ask.Peek 21504 1024) (Say.Peeked leaf_bytes)

abbrev reads : Entry
reads = exec_read 1 catalog_place (Say.Done (catalog_bytes ∷ []))

abbrev issues : Entry
issues = issue_read 1 catalog_place

seven_are : seven_tries ≡ newest ++ looks ∷ reads ∷ issues ∷ []
seven_are = refl

abbrev read_call : Call
read_call = record { node = node 0; request = Ask.Exec (id 0 1) (part_of (read_of catalog_place) (node 0)); reply = Say.Done (catalog_bytes ∷ []) }

-- the read of the catalog alone fails by nothing
catalog_fails_not : (m first : List Entry) (cause : Busy)
    → reads ∷ issues ∷ [] ≡ (reads ∷ m) ++ first → FailsAs 2 put [] (reads ∷ m) cause → ⊥
catalog_fails_not m first cause split (inl (call, here, refused)) = by (subst (λ (c : Call). RefusedAs (seen_in m) c.node c.request c.reply cause) (sym same) refused)
  where
    same : read_call ≡ call
    same = cc

    by : RefusedAs (seen_in m) read_call.node read_call.request read_call.reply cause → ⊥
    by r = r
catalog_fails_not m first cause split (inr fault) = no_fault (seen_in (reads ∷ m)) (λ s has. inr (only catalog_seen s (seen_in_part (reads ∷ issues ∷ []) [] (reads ∷ m) first s split has))) cause fault

-- a later try that reached no further back than the look at the leaf has read no catalog, or that
-- alone
small_fails_not : (k m first : List Entry) (cause : Busy)
    → looks ∷ reads ∷ issues ∷ [] ≡ k ++ (m ++ first) → reads_anew m ≡ true → FailsAs 2 put [] m cause
    → ⊥
small_fails_not [] [] first cause split anew fails = absurd cc
small_fails_not [] (a ∷ m) first cause split anew fails = peeked (subst (λ (x : Entry). times_peeked (x ∷ m) ≡ 0) (sym same) (anew_peeks (a ∷ m) anew))
  where
    same : looks ≡ a
    same = cc

    peeked : times_peeked (looks ∷ m) ≡ 0 → ⊥
    peeked e = absurd (omega arith)
small_fails_not (a ∷ []) [] first cause split anew fails = absurd cc
small_fails_not (a ∷ []) (b ∷ m) first cause split anew fails =
    catalog_fails_not m first cause (subst (λ (x : Entry). reads ∷ issues ∷ [] ≡ (x ∷ m) ++ first) (sym same) tails) (subst (λ (x : Entry). FailsAs 2 put [] (x ∷ m) cause) (sym same) fails)
  where
    tails : reads ∷ issues ∷ [] ≡ (b ∷ m) ++ first
    tails = cc

    same : reads ≡ b
    same = cc
small_fails_not (a ∷ (b ∷ k)) m first cause split anew fails =
    none_asked (ap times_asked tails ∙ (asked_append k (m ++ first) ∙ ap (λ (n : ℕ). times_asked k + n) (asked_append m first))) (anew_asks m anew)
  where
    tails : issues ∷ [] ≡ k ++ (m ++ first)
    tails = cc

    none_asked : ◌≡◌ {A = ℕ} 0 (times_asked k + (times_asked m + times_asked first))
        → 1 ≤ times_asked m → ⊥
    none_asked e some = absurd (omega arith)

-- one that reached further back has looked at the leaf, or has left the catalog's read to the first
long_fails_not : (w m first : List Entry) → m ++ first ≡ w ++ looks ∷ reads ∷ issues ∷ []
    → reads_anew m ≡ true → times_asked first ≡ 0 → ⊥
long_fails_not w m first split anew none = by (cut_twice w (looks ∷ reads ∷ issues ∷ []) m first (sym split))
  where
    later : (k : List Entry) → m ≡ w ++ k → looks ∷ reads ∷ issues ∷ [] ≡ k ++ first → ⊥
    later [] is tail = let asked : ◌≡◌ {A = ℕ} 1 (times_asked first) = ap times_asked tail in absurd (omega arith)
    later (a ∷ k) is tail = peeked (subst (λ (x : Entry). times_peeked (w ++ x ∷ k) ≡ 0) (sym same) (ap times_peeked (sym is) ∙ anew_peeks m anew))
      where
        same : looks ≡ a
        same = cc

        peeked : times_peeked (w ++ looks ∷ k) ≡ 0 → ⊥
        peeked e = let sum = peeked_append w (looks ∷ k) in absurd (omega arith)

    by : ((k : List Entry) × (m ≡ w ++ k) × (looks ∷ reads ∷ issues ∷ [] ≡ k ++ first))
        ⊎ ((v : List Entry) × (first ≡ v ++ looks ∷ reads ∷ issues ∷ [])) → ⊥
    by (inl (k, is, tail)) = later k is tail
    by (inr (v, is)) = let asked = ap times_asked is in let sum = asked_append v (looks ∷ reads ∷ issues ∷ []) in absurd (omega arith)

seven_are_not_enough : (es : List Entry) (busy : Busy) → ShowsAnswer es seven_tries put (Gives.Busy busy)
    → ⊥
seven_are_not_enough es busy (given_up, failed) =
    let oldest = oldest_of 2 [] failed.middle (let six = failed.six in omega arith) (right_true (reads_anew failed.last) _ failed.anew)
    (subst (λ (taken : List Entry). AllByRecursion (λ t. (cause : Busy) × FailsAs 2 put taken t cause) failed.middle) failed.whole failed.others_fail) in
    let before : List Entry = failed.rest ++ failed.last in
    let whole : seven_tries ≡ before ++ flat_map (λ t. t) failed.middle ++ failed.first =
    failed.split ∙ (ap (λ (l : List Entry). before ++ flat_map (λ t. t) failed.middle ++ failed.first ++ l) failed.whole ∙ append-nil (before ++ flat_map (λ t. t) failed.middle ++ failed.first)) in
    let parts : seven_tries ≡ (before ++ oldest.newer) ++ (oldest.try ++ failed.first) =
    whole ∙ (ap (λ (l : List Entry). before ++ l ++ failed.first) oldest.split
    ∙ (ap (λ (l : List Entry). l ++ failed.first) (sym (append_assoc before oldest.newer oldest.try)) ∙ append_assoc (before ++ oldest.newer) oldest.try failed.first)) in
    let asked : ◌≡◌ {A = ℕ} 7 (times_asked ((before ++ oldest.newer) ++ (oldest.try ++ failed.first))) = ap times_asked parts in
    let a = asked_append (before ++ oldest.newer) (oldest.try ++ failed.first) in
    let b = asked_append before oldest.newer in
    let c = asked_append failed.rest failed.last in
    let d = asked_append oldest.try failed.first in
    let last = anew_asks failed.last (left_true (reads_anew failed.last) _ failed.anew) in
    let here = anew_asks oldest.try oldest.anew in
    let newer = oldest.asked in
    let six = failed.six in
    let none : times_asked failed.first ≡ 0 = omega arith in
    by (before ++ oldest.newer) oldest.try failed.first oldest.cause oldest.anew oldest.fails none (cut_twice newest (looks ∷ reads ∷ issues ∷ []) (before ++ oldest.newer) (oldest.try ++ failed.first) (sym seven_are ∙ parts))
  where
    by : (y m first : List Entry) (cause : Busy) → reads_anew m ≡ true → FailsAs 2 put [] m cause
        → times_asked first ≡ 0
        → ((k : List Entry) × (y ≡ newest ++ k) × (looks ∷ reads ∷ issues ∷ [] ≡ k ++ (m ++ first)))
        ⊎ ((w : List Entry) × (m ++ first ≡ w ++ looks ∷ reads ∷ issues ∷ [])) → ⊥
    by y m first cause anew fails none (inl (k, is, tail)) = small_fails_not k m first cause tail anew fails
    by y m first cause anew fails none (inr (w, is)) = long_fails_not w m first is anew none
