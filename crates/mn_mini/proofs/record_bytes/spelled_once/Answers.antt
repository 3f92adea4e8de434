use Rattle.mn_mini.proofs.RecordBytes.{record_once}
use Rattle.mn_mini.proofs.record_bytes.spelled_once.Goals as goal

pub returns : goal.returns
returns c = record_once
