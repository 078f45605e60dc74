-- `place_lines::Draft::open` meets its contract.
use Rattle.replay.proofs.Counting.{counted-kept, counted-few}
use Rattle.replay.proofs.place_lines.Draft.open.Goals as goal

pub shared_ref_as_front-open_blank : goal.shared_ref_as_front-open_blank
shared_ref_as_front-open_blank c = counted-few _ _ _ _ c.args.self.now.counted

pub open_blank-requires-clause-counts : goal.open_blank-requires-clause-counts
open_blank-requires-clause-counts c = counted-kept _ _ _ _ c.args.self.now.counted
