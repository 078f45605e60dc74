-- `planning::fit_put` meets its contract: what is put fits the page.
use mathlib.Core.Path.{refl}
use native.Mathlib.Omega.{arith}
use Rattle.history.proofs.planning.fit_put.Goals as goal

pub fit-requires : goal.fit-requires
fit-requires g c =
    let few = c.requires.few _ _ _ (record { shown = _; shows = refl; left = _; met = c.put-n.ensures; leaves = refl }) in
    omega (arith, few, c.put-n.array_long)
