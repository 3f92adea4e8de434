use Rattle.std.proofs.Common.{◌≡◌, ◌++◌, drop}
use Rattle.std.specs.Prelude.{flat_map}
use Rattle.mn_report.specs.Answers.{version_text}
use Rattle.mn_report.proofs.answers.push_versions.Given as goal

-- the text so far, and that of the rest
abbrev pub invariant-loop-version : goal.invariant-loop-version
invariant-loop-version l = l.out.items ++ flat_map version_text (drop l.version-index l.versions) ≡ l.fn.out.items ++ flat_map version_text l.versions
