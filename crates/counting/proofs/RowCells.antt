-- Rows of 6 cells, filled cell by cell.
use mathlib.Core.Path.{◌≡◌, ap₂, ◌∙◌}
use mathlib.Core.List.{List}
use Prim.Native.Nat.{ℕ, ◌+◌, ◌*◌, ◌/◌, ◌%◌, ◌<◌}
use native.Mathlib.Omega.{arith}
use Rattle.supply.specs.declared.record.Items.{Items}
use Rattle.board.proofs.Filling.{Filled}
use Rattle.counting.specs.Limits.{max_counted}
use Rattle.counting.specs.Rows.{if_item, RowsOf}

-- Six rows of six cells
abbrev pub cell_count : ℕ
cell_count = max_counted * max_counted

-- Cell c: of bidder c / 6, at item c % 6
abbrev pub cell_at : Items → (ℕ → ℕ → ℕ) → ℕ → ℕ
cell_at items w c = if_item items w (c / max_counted) (c % max_counted)

pub rows_of : (items : Items) (w : ℕ → ℕ → ℕ) (rows : List ℕ) → Filled cell_count (cell_at items w) cell_count rows → RowsOf items w rows
rows_of items w rows f =
    record {
      size = f.size;
      each = λ i k li lk. f.cells (i * max_counted + k) (omega arith) ∙ ap₂ (if_item items w) (quotient i k lk) (remainder i k lk);
    }
  where
    quotient : (i k : ℕ) → k < max_counted → (i * max_counted + k) / max_counted ≡ i
    quotient i k l = omega arith

    remainder : (i k : ℕ) → k < max_counted → (i * max_counted + k) % max_counted ≡ k
    remainder i k l = omega arith
