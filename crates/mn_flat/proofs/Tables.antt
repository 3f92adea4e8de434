-- What is known of ids, one record after the other.
use Rattle.std.proofs.Common.{◌≡◌, Bool, true, false, cond, ◌&&◌, ◌||◌, List, [], ◌∷◌, Option, Some, None, refl, subst, sym, ap, ◌∙◌, if◌then◌else◌}
use Rattle.std.specs.Prelude.{unwrap_or}
use Rattle.std.specs.HashMap.{get}
use Rattle.mn_base.specs.Ids.{tid_same}
use Rattle.mn_base.specs.declared.ids.NodeNo.{NodeNo}
use Rattle.mn_base.specs.declared.ids.Tid.{Tid}
use Rattle.mn_mini.specs.declared.record.Record.{Record}
use Rattle.mn_mini.specs.declared.record.Record.TheVariants.{Voted, Executed, Decided, Forced}
use Rattle.mn_mini.specs.Node.{is_of, has_executed, has_decided_yes, has_decided_no}
use Rattle.mn_mini.specs.RecordGrammar.{HasTid}
use Rattle.mn_runs.specs.Sound.{voted_participants, has_record}
use Rattle.mn_runs.proofs.Same.{tid_same-refl, tid_same-true}
use Rattle.mn_flat.specs.declared.known.Known.{Known}
use Rattle.mn_flat.specs.declared.known.Table.{Table}
use Rattle.mn_flat.specs.Known.{IsKnown, TableTells, FollowsRecord, known_at, id_key, keys_same, unknown, differs_from, votes_differ}
use Rattle.mn_flat.specs.Votes.{has_several}

-- a record tells nothing of other ids
pub of_others : (k : Known) (tid : Tid) (r : Record) (older : List Record) → is_of tid r ≡ false → IsKnown k tid older → IsKnown k tid (r ∷ older)
of_others k tid (Voted t participants part) older other is = record {
  seen = is.seen ∙ sym (ap (λ (b : Bool). b || has_record older tid) other);
  several = is.several ∙ sym (ap (λ (b : Bool). (b && has_record older tid) || has_several older tid) other);
  participants = is.participants ∙ sym (ap (λ (b : Bool). if b then Some participants else voted_participants tid older) other);
  differ = is.differ ∙ sym (ap (λ (b : Bool). (b && differs_from (voted_participants tid older) participants) || votes_differ tid older) other);
  executed = is.executed;
  agreed = is.agreed;
  refused = is.refused;
}
of_others k tid (Executed t part) older other is = record {
  seen = is.seen ∙ sym (ap (λ (b : Bool). b || has_record older tid) other);
  several = is.several ∙ sym (ap (λ (b : Bool). (b && has_record older tid) || has_several older tid) other);
  participants = is.participants;
  differ = is.differ;
  executed = is.executed ∙ sym (ap (λ (b : Bool). b || has_executed older tid) other);
  agreed = is.agreed;
  refused = is.refused;
}
of_others k tid (Decided t true) older other is = record {
  seen = is.seen ∙ sym (ap (λ (b : Bool). b || has_record older tid) other);
  several = is.several ∙ sym (ap (λ (b : Bool). (b && has_record older tid) || has_several older tid) other);
  participants = is.participants;
  differ = is.differ;
  executed = is.executed;
  agreed = is.agreed ∙ sym (ap (λ (b : Bool). b || has_decided_yes older tid) other);
  refused = is.refused;
}
of_others k tid (Decided t false) older other is = record {
  seen = is.seen ∙ sym (ap (λ (b : Bool). b || has_record older tid) other);
  several = is.several ∙ sym (ap (λ (b : Bool). (b && has_record older tid) || has_several older tid) other);
  participants = is.participants;
  differ = is.differ;
  executed = is.executed;
  agreed = is.agreed;
  refused = is.refused ∙ sym (ap (λ (b : Bool). b || has_decided_no older tid) other);
}
of_others k tid (Forced t) older other is = record {
  seen = is.seen ∙ sym (ap (λ (b : Bool). b || has_record older tid) other);
  several = is.several ∙ sym (ap (λ (b : Bool). (b && has_record older tid) || has_several older tid) other);
  participants = is.participants;
  differ = is.differ;
  executed = is.executed;
  agreed = is.agreed;
  refused = is.refused;
}

-- the record itself makes it so
pub of_its_own : (before after : Known) (tid : Tid) (r : Record) (older : List Record) → is_of tid r ≡ true → FollowsRecord before after r
    → IsKnown before tid older → IsKnown after tid (r ∷ older)
of_its_own before after tid (Voted t participants part) older same f is = record {
  seen = f.seen ∙ sym (ap (λ (b : Bool). b || has_record older tid) same);
  several = f.several ∙ (ap (λ (b : Bool). b || before.several) is.seen ∙ (ap (λ (b : Bool). has_record older tid || b) is.several ∙ sym (ap (λ (b : Bool). (b && has_record older tid) || has_several older tid) same)));
  participants = f.others.0 ∙ sym (ap (λ (b : Bool). if b then Some participants else voted_participants tid older) same);
  differ = f.others.1 ∙ (ap (λ (o : Option (List NodeNo)). differs_from o participants || before.differ) is.participants ∙ (ap (λ (b : Bool). differs_from (voted_participants tid older) participants || b) is.differ ∙ sym (ap (λ (b : Bool). (b && differs_from (voted_participants tid older) participants) || votes_differ tid older) same)));
  executed = f.others.2 ∙ is.executed;
  agreed = f.others.3 ∙ is.agreed;
  refused = f.others.4 ∙ is.refused;
}
of_its_own before after tid (Executed t part) older same f is = record {
  seen = f.seen ∙ sym (ap (λ (b : Bool). b || has_record older tid) same);
  several = f.several ∙ (ap (λ (b : Bool). b || before.several) is.seen ∙ (ap (λ (b : Bool). has_record older tid || b) is.several ∙ sym (ap (λ (b : Bool). (b && has_record older tid) || has_several older tid) same)));
  participants = f.others.0 ∙ is.participants;
  differ = f.others.1 ∙ is.differ;
  executed = f.others.2 ∙ sym (ap (λ (b : Bool). b || has_executed older tid) same);
  agreed = f.others.3 ∙ is.agreed;
  refused = f.others.4 ∙ is.refused;
}
of_its_own before after tid (Decided t true) older same f is = record {
  seen = f.seen ∙ sym (ap (λ (b : Bool). b || has_record older tid) same);
  several = f.several ∙ (ap (λ (b : Bool). b || before.several) is.seen ∙ (ap (λ (b : Bool). has_record older tid || b) is.several ∙ sym (ap (λ (b : Bool). (b && has_record older tid) || has_several older tid) same)));
  participants = f.others.0 ∙ is.participants;
  differ = f.others.1 ∙ is.differ;
  executed = f.others.2 ∙ is.executed;
  agreed = f.others.3 ∙ sym (ap (λ (b : Bool). b || has_decided_yes older tid) same);
  refused = f.others.4 ∙ is.refused;
}
of_its_own before after tid (Decided t false) older same f is = record {
  seen = f.seen ∙ sym (ap (λ (b : Bool). b || has_record older tid) same);
  several = f.several ∙ (ap (λ (b : Bool). b || before.several) is.seen ∙ (ap (λ (b : Bool). has_record older tid || b) is.several ∙ sym (ap (λ (b : Bool). (b && has_record older tid) || has_several older tid) same)));
  participants = f.others.0 ∙ is.participants;
  differ = f.others.1 ∙ is.differ;
  executed = f.others.2 ∙ is.executed;
  agreed = f.others.3 ∙ is.agreed;
  refused = f.others.4 ∙ sym (ap (λ (b : Bool). b || has_decided_no older tid) same);
}
of_its_own before after tid (Forced t) older same f is = record {
  seen = f.seen ∙ sym (ap (λ (b : Bool). b || has_record older tid) same);
  several = f.several ∙ (ap (λ (b : Bool). b || before.several) is.seen ∙ (ap (λ (b : Bool). has_record older tid || b) is.several ∙ sym (ap (λ (b : Bool). (b && has_record older tid) || has_several older tid) same)));
  participants = f.others.0 ∙ is.participants;
  differ = f.others.1 ∙ is.differ;
  executed = f.others.2 ∙ is.executed;
  agreed = f.others.3 ∙ is.agreed;
  refused = f.others.4 ∙ is.refused;
}

-- Tables

-- a record of one id is of another just where the two are the same
is_of-told : (tid q : Tid) (r : Record) → HasTid tid r → is_of q r ≡ tid_same tid q
is_of-told tid q (Voted t participants part) of = ap (λ (u : Tid). tid_same u q) (sym of)
is_of-told tid q (Executed t part) of = ap (λ (u : Tid). tid_same u q) (sym of)
is_of-told tid q (Decided t verdict) of = ap (λ (u : Tid). tid_same u q) (sym of)
is_of-told tid q (Forced t) of = ap (λ (u : Tid). tid_same u q) (sym of)

pub noted : (old new : Table) (tid : Tid) (r : Record) (older : List Record) (after : Known) → HasTid tid r → TableTells old older → FollowsRecord (known_at old tid) after r
    → ((q : Tid) → get keys_same new.known (id_key q) ≡ cond (tid_same tid q) (Some after) (get keys_same old.known (id_key q))) → TableTells new (r ∷ older)
noted old new tid r older after of tells f updates = λ q. by q (tid_same tid q) refl
  where
    own : (q : Tid) → tid ≡ q → known_at new q ≡ after → IsKnown (known_at new q) q (r ∷ older)
    own q same is =
        let known = of_its_own (known_at old tid) after tid r older (is_of-told tid tid r of ∙ tid_same-refl tid) f (tells tid) in
        subst (λ (k : Known). IsKnown k q (r ∷ older)) (sym is) (subst (λ (t : Tid). IsKnown after t (r ∷ older)) same known)

    other : (q : Tid) → tid_same tid q ≡ false → known_at new q ≡ known_at old q → IsKnown (known_at new q) q (r ∷ older)
    other q apart is =
        subst (λ (k : Known). IsKnown k q (r ∷ older)) (sym is) (of_others (known_at old q) q r older (is_of-told tid q r of ∙ apart) (tells q))

    by : (q : Tid) (b : Bool) → tid_same tid q ≡ b → IsKnown (known_at new q) q (r ∷ older)
    by q true e = own q (tid_same-true tid q e) (ap (λ (o : Option Known). unwrap_or o unknown) (updates q ∙ ap (λ (b : Bool). cond b (Some after) (get keys_same old.known (id_key q))) e))
    by q false e = other q e (ap (λ (o : Option Known). unwrap_or o unknown) (updates q ∙ ap (λ (b : Bool). cond b (Some after) (get keys_same old.known (id_key q))) e))

pub nothing_noted : (t : Table) → ((q : Tid) → get keys_same t.known (id_key q) ≡ None) → TableTells t []
nothing_noted t none = λ q. let is : known_at t q ≡ unknown = ap (λ (o : Option Known). unwrap_or o unknown) (none q) in subst (λ (k : Known). IsKnown k q []) (sym is) (record { seen = refl; several = refl; participants = refl; differ = refl; executed = refl; agreed = refl; refused = refl })
