-- A run with its memory has the flat meaning.
use Rattle.std.proofs.Common.{ℕ, List, ◌∷◌, subst, sym, ap, ◌∙◌}
use Rattle.mn_mini.specs.Flat.{outcome_on, space_in}
use Rattle.mn_runs.specs.declared.entry.Entry.{Entry}
use Rattle.mn_runs.specs.Protocol.{Start, FollowsProtocol}
use Rattle.mn_runs.specs.Commits.{flat_after}
use Rattle.mn_commits.specs.Laws.{IsRunFrom, IsFlatRun}
use Rattle.mn_votes.proofs.Held.{held_parts_apart}
use Rattle.mn_commits.proofs.Bytes.Spaces.{commits_are_flat, spaces_agree, memory_is_flat}
use Rattle.mn_commits.proofs.Bytes.Reads.{execs_are_flat}
use Rattle.mn_runs.proofs.Prefixes.{older_follows}

pub flat_run : (start : Start) (memory : List (List ℕ)) (past : List Entry) → IsRunFrom start memory past → IsFlatRun start memory (flat_after memory past) past
flat_run start memory past r = record {
  commits = λ later e before i split c.
      let o = commits_are_flat start before e i r.sound (older_follows start later (e ∷ before) (subst (FollowsProtocol start) split r.keeps)) c in
      (o.0, o.1, ap (λ (m : List (List ℕ)). outcome_on (flat_after m before) i.mini) (sym r.opened) ∙ o.2);
  execs = λ later e before k tid part reads split at is.
      let o = execs_are_flat start before e k tid part reads r.sound (older_follows start later (e ∷ before) (subst (FollowsProtocol start) split r.keeps)) at is in
      (o.0, o.1, o.2, o.3, ap (λ (m : List (List ℕ)). outcome_on (flat_after m before) o.0.mini) (sym r.opened) ∙ o.4);
  spaces = λ n place low free.
      spaces_agree start past n place r.sound r.keeps low free ∙ ap (λ (m : List (List ℕ)). Rattle.std.specs.Prelude.slice_get (space_in (flat_after m past) n) place) r.opened;
  records = memory_is_flat start past r.sound r.keeps ∙ ap (λ (m : List (List ℕ)). flat_after m past) r.opened;
  held_apart = λ n low. held_parts_apart start past n r.sound r.keeps low;
}
