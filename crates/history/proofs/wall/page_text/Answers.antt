-- `wall::page_text` meets its contract: the page's first bytes are what is printed.
use mathlib.Core.Path.{sym, ap, ◌∙◌}
use mathlib.Core.List.{List}
use Prim.Native.Nat.{ℕ}
use borrow.Author.Rules.{rules}
use lib.ListN.{take}
use Rattle.history.specs.Plan.{fitted}
use Rattle.history.specs.Wall.{WallWritten}
use Rattle.history.proofs.wall.page_text.Goals as goal

pub returns : goal.returns
returns c =
    let (after, n, gave, e) = c.fit_put.ensures in
    let w : WallWritten c.args.text.now gave.shown.now gave.left.now n = search rules in
    e ∙ ap (λ (l : List ℕ). fitted l c.args.out.now) (ap (take n) (sym gave.leaves) ∙ w.bytes)
