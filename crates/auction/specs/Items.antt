-- A list of items that a withdrawal lends: how each is tested. Item i + 1 of the list is cell i.
use Rattle.std.specs.Prelude.{Bool, not, List, [], ◌∷◌, ℕ, suc, ◌-◌}
use Rattle.refusals.specs.declared.Refusal.TheVariants.{Unknown, Gone, Order}
use Rattle.refusals.specs.Demand1.{Check, check_for}
use Rattle.refusals.specs.Each.{each_checks}
use Rattle.board.specs.Ranges.{within_test}
use Rattle.auction.specs.Edges.{order_test}

-- "kettle by kettle 4, 5, 7" (document 02, R-3): the checks of the item in cell i of a list. `gone` says which items are withdrawn; `item` reads the list's cells
unfoldable pub item_checks : ℕ → (ℕ → Bool) → (ℕ → ℕ) → ℕ → List Check
item_checks known gone item i =
    check_for (Unknown (suc i)) (not (within_test known (item i))) ∷
    (check_for (Gone (suc i)) (gone (item i - 1)) ∷
    (check_for (Order (suc i)) (order_test item i) ∷ []))

-- Of n items from cell i on
abbrev pub items_checks : ℕ → (ℕ → Bool) → (ℕ → ℕ) → ℕ → ℕ → List Check
items_checks known gone item i n = each_checks (item_checks known gone item) i n
