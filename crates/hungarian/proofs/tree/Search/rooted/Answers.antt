-- `Search::rooted` meets its contract.
use mathlib.Core.Path.{refl}
use lib.ListN.{get_or-replicate}
use borrow.Author.Rules.{rules}
use Rattle.board.specs.Limits.{max_items}
use Rattle.hungarian.specs.Limits.{unreached}
use Rattle.hungarian.proofs.Cells.{get_or-all, unmarked}
use Rattle.hungarian.proofs.ItemsLeft.{all_left}
use Rattle.hungarian.proofs.tree.Search.rooted.Goals as goal

pub returns-clause-sprout : goal.returns-clause-sprout
returns-clause-sprout c = record {
  root = refl;
  holder = refl;
  fresh = λ k. unmarked (get_or-all max_items k 0);
  excess = λ k l. get_or-replicate max_items k unreached 0 l;
  low = refl;
  lowest = refl;
  fall = refl;
}

pub returns-clause-remains : goal.returns-clause-remains
returns-clause-remains c = rw c.all.ensures.count (all_left (search rules) c.all.ensures.items)
