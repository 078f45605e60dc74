-- `sound::counts_hold` meets its contract.
use Rattle.std.proofs.Common.{rules, ◌≡◌, ◌↔◌, ℕ, ◌<◌, true, get_or}
use Rattle.std.specs.Prelude.{ltb}
use Rattle.duality.proofs.Decide.{same_test, true-decides, all-decides}
use Rattle.board.specs.Limits.{max_items}
use Rattle.supply.specs.SoundTest.{counts_test, count_test}
use Rattle.supply.proofs.sound.counts_hold.Goals as goal

pub returns : goal.returns
unfolding counts_test
returns c =
    let n = c.args.items.count in
    let ps = c.args.items.places in
    let h : (c.all.result ≡ true) ↔ ((k : ℕ) → k < max_items → count_test (ltb k n) (get_or ps k 0) ≡ true) = search rules in
    same_test _ _ (record { sound = h.0; complete = h.1 }) (all-decides max_items _ _ (λ j. true-decides _))
