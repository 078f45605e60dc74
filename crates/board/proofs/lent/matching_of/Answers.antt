-- `lent::matching_of` meets its contract: each item that is passed has its holder's cell.
use mathlib.Core.Path.{◌≡◌, refl}
use Prim.Native.Nat.{ℕ, suc, ◌-◌}
use native.Mathlib.Omega.{arith}
use borrow.Author.Rules.{rules}
use Rattle.board.proofs.Filling.{turn-none, turn-free, turn-held, turn-all}
use Rattle.board.proofs.lent.matching_of.Goals as goal
use Rattle.board.proofs.lent.matching_of.Goals.{Then-held-ne0, then-held-ne0, else-held-ne0}
use Rattle.std.proofs.lemmas.List.{get_or-take}
use Rattle.std.proofs.Common.{length, rules, sym, ◌∙◌, length-take}
use Rattle.board.specs.Limits.{max_items}
use Rattle.board.proofs.Numbers.{length-of-map}

-- A cell that is not 0 names the bidder one below it
names : (held : ℕ) → (held ≡ 0 → ⊥) → held ≡ suc (held - 1)
names held ne = omega arith

pub loop-k-init : goal.loop-k-init
loop-k-init c = turn-none c.args.holder

pub loop-k-preserved : goal.loop-k-preserved
loop-k-preserved c =
    let size : length c.args.holder ≡ max_items = search (rules, length-of-map) in
    let part = length-take c.args.items c.args.holder in
    let read = get_or-take c.args.items c.args.holder c.loop-k.k 0 (omega arith) in
    let few = c.requires.holders c.loop-k.k (omega arith) in
    elim c.if-held-ne0.branch [
      | then-held-ne0 w ↦
          let ne : (w.from.result ≡ 0 → ⊥) = λ z. w.if-held-ne0.true (sym w.from.ensures ∙ z) in
          rw w.matching-is (turn-held c.loop-k.invariant (omega (arith, few, read, w.from.ensures)) (sym (w.from.ensures ∙ read) ∙ names _ ne) refl)
      | else-held-ne0 w ↦ rw w.matching-is (turn-free c.loop-k.invariant (sym read ∙ w.if-held-ne0.false))
    ]

pub returns : goal.returns
returns c =
    let size : length c.args.holder ≡ max_items = search (rules, length-of-map) in
    let part = length-take c.args.items c.args.holder in
    let all : c.loop-k.k ≡ c.args.items = omega arith in
    rw (← all) (turn-all (λ j l. c.requires.holders j (omega arith)) c.loop-k.invariant)
