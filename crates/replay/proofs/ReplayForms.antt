-- What a line says, by its form; and the pairs of its numbers.
use mathlib.Core.Path.{◌≡◌, refl}
use mathlib.Core.Bool.{Bool, true, false, ◌&&◌}
use mathlib.Core.List.{List, []}
use Prim.Native.Nat.{ℕ, ◌-◌, ◌/◌, ◌%◌, min}
use native.Mathlib.Omega.{arith}
use lib.ListN.{get_or, set, take}
use lib.Dec.{eqb, ltb}
use borrow.Author.Tests.{eqb-true, ne_eqb}
use Rattle.text.specs.declared.line.Line.{Line}
use Rattle.text.proofs.Numbers.{both}
use Rattle.supply.specs.declared.record.Board.{Board}
use Rattle.board.specs.declared.record.Edge.{Edge}
use Rattle.refusals.specs.declared.Refusal.{Refusal}
use Rattle.replay.specs.declared.Replayed.{Replayed}
use Rattle.board.specs.Limits.{max_edges}
use Rattle.bidding.specs.Rule.{Outcome}
use Rattle.refusals.specs.Demand1.{first_of}
use Rattle.supply.specs.Opening.{opened}
use Rattle.auction.specs.Arrive.{arrive_of}
use Rattle.auction.specs.Withdraw.{withdraw_of}
use Rattle.replay.specs.Replay.{opens, places, arrives, withdraws, pairs_of, command_of, stopped, after_arrival, after_withdrawal, carry_out, place_checks, after_places, place_line, first_line}

-- The forms, as tests
abbrev pub is_opening : Line → Bool
is_opening l = eqb l.letter 75 && eqb l.count 3

abbrev pub is_places : Line → Bool
is_places l = eqb l.letter 80 && eqb l.count 2

abbrev pub is_arrival : Line → Bool
is_arrival l = eqb l.letter 65 && eqb (l.count % 2) 0

abbrev pub is_withdrawal : Line → Bool
is_withdrawal l = eqb l.letter 87 && ltb 0 l.count

-- The edges that an arrival's line gives
abbrev pub edges_said : Line → List Edge
edges_said l = pairs_of l.numbers (min (l.count / 2) max_edges)

-- The items that a withdrawal's line gives
abbrev pub items_said : Line → List ℕ
items_said l = take (min l.count max_edges) l.numbers

module _ (l : Line) where
  letter-is : (kind : ℕ) (fits : Bool) → eqb l.letter kind && fits ≡ true → l.letter ≡ kind
  letter-is kind fits e = eqb-true l.letter kind (both (eqb l.letter kind) fits e).0

  pub says-opens : is_opening l ≡ true → command_of l ≡ opens (get_or l.numbers 0 0) (get_or l.numbers 1 0) (get_or l.numbers 2 0)
  unfolding command_of
  says-opens e = rw e

  pub says-places : is_places l ≡ true → command_of l ≡ places (get_or l.numbers 0 0) (get_or l.numbers 1 0)
  unfolding command_of
  says-places e = let a = letter-is 80 (eqb l.count 2) e in rw (ne_eqb l.letter 75 (λ q. omega arith), e)

  pub says-arrives : is_arrival l ≡ true → command_of l ≡ arrives (edges_said l)
  unfolding command_of
  says-arrives e = let a = letter-is 65 (eqb (l.count % 2) 0) e in rw (ne_eqb l.letter 75 (λ q. omega arith), ne_eqb l.letter 80 (λ q. omega arith), e)

  pub says-withdraws : is_withdrawal l ≡ true → command_of l ≡ withdraws (items_said l)
  unfolding command_of
  says-withdraws e =
      let a = letter-is 87 (ltb 0 l.count) e in
      rw (ne_eqb l.letter 75 (λ q. omega arith), ne_eqb l.letter 80 (λ q. omega arith), ne_eqb l.letter 65 (λ q. omega arith), e)

  -- A line after the first: an arrival, a withdrawal, or else a further `K` or no form
  module _ (next : Board → ℕ → Outcome Replayed) (n : ℕ) (b : Board) (bids : ℕ) where
    pub carries-arrival : is_arrival l ≡ true → carry_out next n b bids (command_of l) ≡ after_arrival next n bids (arrive_of b (edges_said l))
    unfolding carry_out
    carries-arrival e = rw (says-arrives e)

    pub carries-withdrawal : is_withdrawal l ≡ true → carry_out next n b bids (command_of l) ≡ after_withdrawal next n bids (withdraw_of b (items_said l))
    unfolding carry_out
    carries-withdrawal e = rw (says-withdraws e)

    pub carries-none : is_arrival l ≡ false → is_withdrawal l ≡ false → carry_out next n b bids (command_of l) ≡ stopped b bids (Refusal.Line n) n
    unfolding command_of carry_out
    carries-none e f = go (is_opening l) (is_places l) refl refl
      where
        go : (t u : Bool) → is_opening l ≡ t → is_places l ≡ u → carry_out next n b bids (command_of l) ≡ stopped b bids (Refusal.Line n) n
        go true u q p = rw q
        go false true q p = rw (q, p)
        go false false q p = rw (q, p, e, f)

  -- A line while the board is being opened: one of places, or any other
  module _ (next : ℕ → List ℕ → Outcome Replayed) (rest : Outcome Replayed) (n items p q low : ℕ) (counts : List ℕ) where
    pub places-goes : is_places l ≡ true → place_line next rest n items p q low counts (command_of l) ≡
        after_places (next (get_or l.numbers 0 0) (set counts (get_or l.numbers 0 0 - 1) (get_or l.numbers 1 0))) n (opened p q counts)
        (first_of (place_checks items p q low counts (get_or l.numbers 0 0) (get_or l.numbers 1 0)))
    unfolding place_line
    places-goes e = rw (says-places e)

    pub places-none : is_places l ≡ false → place_line next rest n items p q low counts (command_of l) ≡ rest
    unfolding command_of place_line
    places-none e = go (is_opening l) (is_arrival l) (is_withdrawal l) refl refl refl
      where
        go : (t u v : Bool) → is_opening l ≡ t → is_arrival l ≡ u → is_withdrawal l ≡ v → place_line next rest n items p q low counts (command_of l) ≡ rest
        go true u v x y z = rw x
        go false true v x y z = rw (x, e, y)
        go false false true x y z = rw (x, e, y, z)
        go false false false x y z = rw (x, e, y, z)

  -- The first line, where it is no `K`
  pub opens-none : is_opening l ≡ false → (s : List ℕ) (at : ℕ) → first_line s at (command_of l) ≡ stopped (opened 0 0 []) 0 (Refusal.Line 1) 1
  unfolding command_of first_line
  opens-none e s at = go (is_places l) (is_arrival l) (is_withdrawal l) refl refl refl
    where
      go : (v t u : Bool) → is_places l ≡ v → is_arrival l ≡ t → is_withdrawal l ≡ u → first_line s at (command_of l) ≡ stopped (opened 0 0 []) 0 (Refusal.Line 1) 1
      go true t u r q p = rw (e, r)
      go false true u r q p = rw (e, r, q)
      go false false true r q p = rw (e, r, q, p)
      go false false false r q p = rw (e, r, q, p)
