-- What a record adds to what a node keeps in memory.
use Rattle.std.proofs.Common.{◌≡◌, ℕ, Bool, true, false, not, ◌||◌, List, [], ◌∷◌, ◌++◌, length, map, reverse, refl, ap, sym, ◌∙◌, subst, append-nil, if◌then◌else◌}
use Rattle.std.specs.List.{AllByRecursion}
use Rattle.std.proofs.lemmas.List.{reverse-append}
use Rattle.mn_base.specs.Ids.{tid_same}
use Rattle.mn_base.specs.declared.ids.NodeNo.{NodeNo}
use Rattle.mn_base.specs.declared.ids.Tid.{Tid}
use Rattle.mn_base.specs.declared.ids.Range.{Range}
use Rattle.mn_base.proofs.Lists.{all_append}
use Rattle.mn_mini.specs.declared.part.PartItem.{PartItem}
use Rattle.mn_mini.specs.declared.record.Record.{Record}
use Rattle.mn_mini.specs.declared.record.Record.TheVariants.{Voted, Executed, Decided, Forced}
use Rattle.mn_mini.specs.Flat.{space_after_part}
use Rattle.mn_mini.specs.Mini.{space_size}
use Rattle.mn_mini.specs.Node.{HeldPart, held_parts, without_tid, has_forced, space_of, with_held}
use Rattle.mn_mini.specs.RecordGrammar.{IsRecord}
use Rattle.mn_locks.specs.declared.hold.Hold.{Hold}
use Rattle.mn_locks.specs.Locks.{hold_of, holds_of, without}
use Rattle.mn_node.specs.declared.held.Vote.{Vote}
use Rattle.mn_node.specs.Held.{votes_of_others}
use Rattle.mn_node.specs.Part.{shared_of, alone_of, part_holds, holds_by}
use Rattle.mn_node.specs.Memory.{IsMadeByRecords, is_among}
use Rattle.mn_node.proofs.Ties.{holds_by-cons}
use Rattle.mn_node.proofs.Votes.{held_voted, held_same, held_decided, newest}

-- Lists

pub all-reverse : {X : Type 0} (P : X → Type 0) (xs : List X) → AllByRecursion P xs → AllByRecursion P (reverse xs)
all-reverse P [] p = tt
all-reverse {X = X} P (x ∷ xs) p = subst (λ (l : List X). AllByRecursion P l) (sym (reverse-append (x ∷ []) xs)) (all_append P (reverse xs) (x ∷ []) (all-reverse P xs p.1) (p.0, tt))

-- Locks that a decision frees

without-append : (tid : Tid) (xs ys : List Hold) → without tid (xs ++ ys) ≡ without tid xs ++ without tid ys
without-append tid [] ys = refl
without-append tid (x ∷ xs) ys = of (not (tid_same x.tid tid)) (without-append tid xs ys)
  where
    of : (b : Bool) → without tid (xs ++ ys) ≡ without tid xs ++ without tid ys → (if b then x ∷ without tid (xs ++ ys) else without tid (xs ++ ys)) ≡ (if b then x ∷ without tid xs else without tid xs) ++ without tid ys
    of true ih = ap (λ (l : List Hold). x ∷ l) ih
    of false ih = ih

freed : (tid t : Tid) (kind : Bool) (ranges : List Range) → tid_same t tid ≡ true → without tid (map (hold_of t kind) ranges) ≡ []
freed tid t kind [] e = refl
freed tid t kind (r ∷ ranges) e =
    ap (λ (b : Bool). if not b then hold_of t kind r ∷ without tid (map (hold_of t kind) ranges) else without tid (map (hold_of t kind) ranges)) e ∙ freed tid t kind ranges e

kept : (tid t : Tid) (kind : Bool) (ranges : List Range) → tid_same t tid ≡ false → without tid (map (hold_of t kind) ranges) ≡ map (hold_of t kind) ranges
kept tid t kind [] e = refl
kept tid t kind (r ∷ ranges) e =
    ap (λ (b : Bool). if not b then hold_of t kind r ∷ without tid (map (hold_of t kind) ranges) else without tid (map (hold_of t kind) ranges)) e ∙ ap (λ (l : List Hold). hold_of t kind r ∷ l) (kept tid t kind ranges e)

part_freed : (tid : Tid) (h : HeldPart) → tid_same h.tid tid ≡ true → without tid (part_holds h) ≡ []
part_freed tid h e =
    without-append tid (map (hold_of h.tid false) (shared_of h.part)) (map (hold_of h.tid true) (alone_of h.part))
    ∙ ap (λ (l : List Hold). l ++ without tid (map (hold_of h.tid true) (alone_of h.part))) (freed tid h.tid false (shared_of h.part) e) ∙ freed tid h.tid true (alone_of h.part) e

part_kept : (tid : Tid) (h : HeldPart) → tid_same h.tid tid ≡ false → without tid (part_holds h) ≡ part_holds h
part_kept tid h e =
    without-append tid (map (hold_of h.tid false) (shared_of h.part)) (map (hold_of h.tid true) (alone_of h.part))
    ∙ ap (λ (l : List Hold). l ++ without tid (map (hold_of h.tid true) (alone_of h.part))) (kept tid h.tid false (shared_of h.part) e)
    ∙ ap (λ (l : List Hold). map (hold_of h.tid false) (shared_of h.part) ++ l) (kept tid h.tid true (alone_of h.part) e)

pub holds_without : (tid : Tid) (hs : List HeldPart) → without tid (holds_by hs) ≡ holds_by (without_tid tid hs)
holds_without tid [] = refl
holds_without tid (h ∷ hs) =
    ap (λ (l : List Hold). without tid l) (holds_by-cons h hs) ∙ without-append tid (holds_by hs) (part_holds h) ∙ ap (λ (l : List Hold). l ++ without tid (part_holds h)) (holds_without tid hs) ∙ of (tid_same h.tid tid) refl
  where
    of : (b : Bool) → tid_same h.tid tid ≡ b → holds_by (without_tid tid hs) ++ without tid (part_holds h) ≡ holds_by (if b then without_tid tid hs else h ∷ without_tid tid hs)
    of true e = ap (λ (l : List Hold). holds_by (without_tid tid hs) ++ l) (part_freed tid h e) ∙ append-nil (holds_by (without_tid tid hs))
    of false e = ap (λ (l : List Hold). holds_by (without_tid tid hs) ++ l) (part_kept tid h e) ∙ sym (holds_by-cons h (without_tid tid hs))

-- What each record adds

pub built_voted : (base : List ℕ) (records : List Record) (space : List ℕ) (holds : List Hold) (forced : List Tid) (held : List Vote) (tid : Tid) (ps : List NodeNo) (part : List PartItem) (place : ℕ) → place ≡ length records
    → IsMadeByRecords base records space holds forced held → IsRecord (Voted tid ps part) → IsMadeByRecords base (records ++ Voted tid ps part ∷ []) space (holds ++ holds_of tid (shared_of part) (alone_of part)) forced (held ++ record { tid = tid; place = place } ∷ [])
built_voted base records space holds forced held tid ps part place at b is =
    let turned = newest records (Voted tid ps part) in
    let h : HeldPart = record { tid = tid; participants = ps; part = part } in
    record {
      space_is = b.space_is ∙ sym (ap (λ (l : List Record). space_of base l) turned);
      size = b.size;
      holds_are = ap (λ (l : List Hold). l ++ part_holds h) b.holds_are ∙ sym (holds_by-cons h (held_parts (reverse records))) ∙ sym (ap (λ (l : List Record). holds_by (held_parts l)) turned);
      forced_are = λ t. b.forced_are t ∙ sym (ap (λ (l : List Record). has_forced l t) turned);
      held_are = held_voted records held tid ps part place at b.held_are;
      sound = all_append IsRecord records (Voted tid ps part ∷ []) b.sound (is, tt);
    }

pub built_executed : (base : List ℕ) (records : List Record) (space new : List ℕ) (holds : List Hold) (forced : List Tid) (held : List Vote) (tid : Tid) (part : List PartItem)
    → IsMadeByRecords base records space holds forced held → IsRecord (Executed tid part) → new ≡ space_after_part space part → length new ≡ space_size → IsMadeByRecords base (records ++ Executed tid part ∷ []) new holds forced held
built_executed base records space new holds forced held tid part b is e size =
    let turned = newest records (Executed tid part) in
    record {
      space_is = e ∙ ap (λ (l : List ℕ). space_after_part l part) b.space_is ∙ sym (ap (λ (l : List Record). space_of base l) turned);
      size = size;
      holds_are = b.holds_are ∙ sym (ap (λ (l : List Record). holds_by (held_parts l)) turned);
      forced_are = λ t. b.forced_are t ∙ sym (ap (λ (l : List Record). has_forced l t) turned);
      held_are = held_same records held (Executed tid part) refl b.held_are;
      sound = all_append IsRecord records (Executed tid part ∷ []) b.sound (is, tt);
    }

or_turned : (a b : Bool) → (a || (b || false)) ≡ (b || a)
or_turned true true = refl
or_turned true false = refl
or_turned false true = refl
or_turned false false = refl

among-append : (tids : List Tid) (t tid : Tid) → is_among (tids ++ t ∷ []) tid ≡ (tid_same t tid || is_among tids tid)
among-append [] t tid = or_turned false (tid_same t tid)
among-append (u ∷ tids) t tid = ap (λ (b : Bool). tid_same u tid || b) (among-append tids t tid) ∙ past (tid_same u tid) (tid_same t tid) (is_among tids tid)
  where
    past : (a b c : Bool) → (a || (b || c)) ≡ (b || (a || c))
    past true true c = refl
    past true false c = refl
    past false b c = refl

pub built_forced : (base : List ℕ) (records : List Record) (space : List ℕ) (holds : List Hold) (forced : List Tid) (held : List Vote) (tid : Tid)
    → IsMadeByRecords base records space holds forced held → IsRecord (Forced tid) → IsMadeByRecords base (records ++ Forced tid ∷ []) space holds (forced ++ tid ∷ []) held
built_forced base records space holds forced held tid b is =
    let turned = newest records (Forced tid) in
    record {
      space_is = b.space_is ∙ sym (ap (λ (l : List Record). space_of base l) turned);
      size = b.size;
      holds_are = b.holds_are ∙ sym (ap (λ (l : List Record). holds_by (held_parts l)) turned);
      forced_are = λ t. among-append forced tid t ∙ ap (λ (x : Bool). tid_same tid t || x) (b.forced_are t) ∙ sym (ap (λ (l : List Record). has_forced l t) turned);
      held_are = held_same records held (Forced tid) refl b.held_are;
      sound = all_append IsRecord records (Forced tid ∷ []) b.sound (is, tt);
    }

pub built_decided : (base : List ℕ) (records : List Record) (space new : List ℕ) (holds : List Hold) (forced : List Tid) (held : List Vote) (tid : Tid) (verdict : Bool)
    → IsMadeByRecords base records space holds forced held → IsRecord (Decided tid verdict)
    → new ≡ (if verdict then with_held (λ t. tid_same t tid) space (held_parts (reverse records)) else space) → length new ≡ space_size
    → IsMadeByRecords base (records ++ Decided tid verdict ∷ []) new (without tid holds) forced (votes_of_others tid held)
built_decided base records space new holds forced held tid verdict b is e size =
    let turned = newest records (Decided tid verdict) in
    record {
      space_is = e ∙ spaces verdict ∙ sym (ap (λ (l : List Record). space_of base l) turned);
      size = size;
      holds_are = ap (λ (l : List Hold). without tid l) b.holds_are ∙ holds_without tid (held_parts (reverse records)) ∙ sym (ap (λ (l : List Record). holds_by (held_parts l)) turned);
      forced_are = λ t. b.forced_are t ∙ sym (ap (λ (l : List Record). has_forced l t) turned ∙ not_force t verdict);
      held_are = held_decided records held tid verdict b.held_are;
      sound = all_append IsRecord records (Decided tid verdict ∷ []) b.sound (is, tt);
    }
  where
    spaces : (v : Bool) → (if v then with_held (λ t. tid_same t tid) space (held_parts (reverse records)) else space) ≡ space_of base (Decided tid v ∷ reverse records)
    spaces true = ap (λ (l : List ℕ). with_held (λ t. tid_same t tid) l (held_parts (reverse records))) b.space_is
    spaces false = b.space_is

    not_force : (t : Tid) (v : Bool) → has_forced (Decided tid v ∷ reverse records) t ≡ has_forced (reverse records) t
    not_force t true = refl
    not_force t false = refl
