-- `shape::starts_of` meets its contract: a first place is among all places.
use native.Mathlib.Omega.{arith}
use borrow.Author.Rules.{rules}
use Rattle.supply.proofs.Shaping.{starts-in}
use Rattle.supply.proofs.shape.starts_of.Goals as goal

pub overflow_add-next : goal.overflow_add-next
overflow_add-next c =
    let h = starts-in c.args.items c.loop-k.k (omega arith) in
    search rules
