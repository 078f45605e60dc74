-- `opening::counts_verdict` meets its contract: the first count that is out of its range is told.
use mathlib.Core.Path.{sym, ◌∙◌}
use native.Mathlib.Numerals.{add-one}
use native.Mathlib.Omega.{arith}
use lib.ListN.{length}
use Prim.Native.Nat.{suc}
use Rattle.refusals.specs.declared.Refusal.TheVariants.{Places}
use Rattle.duality.specs.Lists.{cells}
use Rattle.board.specs.Ranges.{within_test}
use Rattle.supply.specs.Board.{max_places}
use Rattle.refusals.proofs.Places.{first_at, none_at}
use Rattle.supply.proofs.opening.counts_verdict.Goals as goal

pub returns-then-not-is_within : goal.returns-then-not-is_within
returns-then-not-is_within c =
    let xs = c.args.counts.now in
    rw add-one
    (first_at (λ k. Places (suc k)) (λ k. within_test max_places (cells xs k)) (length xs) c.loop-k.k (omega arith) c.loop-k.invariant
    (sym c.is_within.ensures.test ∙ c.if-not-is_within.true))

pub returns : goal.returns
returns c =
    let xs = c.args.counts.now in
    none_at (λ k. Places (suc k)) (λ k. within_test max_places (cells xs k)) (length xs) (λ j l. c.loop-k.invariant j (omega arith))
