-- The items left: all at first, and one fewer where one is visited, whose cell the last of them takes.
use mathlib.Core.Path.{◌≡◌, sym, ap, ◌∙◌}
use mathlib.Core.Bool.{false}
use mathlib.Core.List.{List}
use mathlib.Core.Logic.{◌≢◌, ⊎_elim, by_cases}
use Prim.Native.Nat.{ℕ, ◌-◌, ◌<◌}
use native.Mathlib.Decide.{ℕ_discrete, dec_lt}
use native.Mathlib.Omega.{arith}
use lib.ListN.{set, length, length-set, replicate}
use lib.Seq.{get_or-set_same, get_or-set_other}
use Rattle.duality.specs.Lists.{cells}
use Rattle.board.specs.Limits.{max_items}
use Rattle.board.specs.Cells.{flag_at}
use Rattle.hungarian.specs.Tree.{Remaining}
use Rattle.hungarian.proofs.Cells.{get_or-all, unmarked, never, new, new-or-old, none_before, mark}

pub all_left : {left : List ℕ} → length left ≡ max_items → ((k : ℕ) → k < max_items → cells left k ≡ k) → Remaining (replicate max_items 0) left max_items
all_left {left} long is =
    record {
      few = omega arith;
      long = long;
      within = λ j l. (omega (arith, is j l), unmarked (get_or-all max_items (cells left j) 0));
      all = λ k l u. (k, l, is k l);
      once = λ i j li lj e. sym (is i li) ∙ e ∙ is j lj;
    }

module _ {visited left : List ℕ} {count cell item : ℕ} (m : Remaining visited left count) (l : cell < count) (e : cells left cell ≡ item) (long : length visited ≡ max_items) where
  abbrev visited' : List ℕ
  visited' = set visited item 1

  abbrev left' : List ℕ
  left' = set left cell (cells left (count - 1))

  near : item < length visited
  near = omega (arith, (m.within cell l).0)

  here : cells left' cell ≡ cells left (count - 1)
  here = get_or-set_same left cell (cells left (count - 1)) 0 (omega (arith, m.long, m.few))

  there : (j : ℕ) → j ≢ cell → cells left' j ≡ cells left j
  there j ne = get_or-set_other left cell j (cells left (count - 1)) 0 ne

  -- Another cell that is left has another item
  other : (j : ℕ) → j < count → j ≢ cell → cells left j ≢ item
  other j lj ne h = ne (m.once j cell lj l (h ∙ sym e))

  unseen : (k : ℕ) → k ≢ item → flag_at visited k ≡ false → flag_at visited' k ≡ false
  unseen k ne u = ⊎_elim (λ v. ⊎_elim (λ q. absurd (ne q)) (λ q. never q u) (new-or-old visited item k v)) (λ q. q) (mark (flag_at visited' k))

  -- Which cell a cell's item was in
  was : (j : ℕ) → j < count - 1 → (i : ℕ) × (i < count) × (i ≢ cell) × (cells left' j ≡ cells left i)
  was j lj =
      by_cases (ℕ_discrete j cell)
      (λ (q : j ≡ cell). (count - 1, omega arith, λ z. absurd (omega arith), rw q here))
      (λ ne. (j, omega arith, ne, there j ne))

  within : (j : ℕ) → j < count - 1 → (cells left' j < max_items) × (flag_at visited' (cells left' j) ≡ false)
  within j lj =
      let (i, li, ne, q) = was j lj in
      rw q ((m.within i li).0, unseen (cells left i) (other i li ne) (m.within i li).1)

  all : (k : ℕ) → k < max_items → flag_at visited' k ≡ false → (j : ℕ) × (j < count - 1) × (cells left' j ≡ k)
  all k lk u =
      let (j, lj, q) = m.all k lk (none_before visited item k near u) in
      by_cases (ℕ_discrete j cell)
      (λ (z : j ≡ cell). never (let h : k ≡ item = sym q ∙ ap (cells left) z ∙ e in rw h (new visited item near)) u)
      (λ ne. by_cases (dec_lt j (count - 1))
      (λ x. (j, x, there j ne ∙ q))
      (λ x. let last : j ≡ count - 1 = omega arith in (cell, omega arith, here ∙ ap (cells left) (sym last) ∙ q)))

  once : (i j : ℕ) → i < count - 1 → j < count - 1 → cells left' i ≡ cells left' j → i ≡ j
  once i j li lj q =
      by_cases (ℕ_discrete i cell)
      (λ (x : i ≡ cell). by_cases (ℕ_discrete j cell)
      (λ (y : j ≡ cell). x ∙ sym y)
      (λ ny. absurd (omega (arith, m.once (count - 1) j (omega arith) (omega arith) (sym here ∙ ap (cells left') (sym x) ∙ q ∙ there j ny)))))
      (λ nx. by_cases (ℕ_discrete j cell)
      (λ (y : j ≡ cell). absurd (omega (arith, m.once i (count - 1) (omega arith) (omega arith) (sym (there i nx) ∙ q ∙ ap (cells left') y ∙ here))))
      (λ ny. m.once i j (omega arith) (omega arith) (sym (there i nx) ∙ q ∙ there j ny)))

  pub one_fewer : Remaining (set visited item 1) (set left cell (cells left (count - 1))) (count - 1)
  one_fewer =
      record {
        few = omega (arith, m.few);
        long = length-set left cell (cells left (count - 1)) ∙ m.long;
        within = within;
        all = all;
        once = once;
      }
