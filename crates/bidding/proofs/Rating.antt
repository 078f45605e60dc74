-- What step 1 leaves of an edge: its utility in pence, rounded up, where it is live and open, and 0 where it is not.
use mathlib.Core.Path.{◌≡◌, refl, sym, ◌∙◌}
use mathlib.Core.Bool.{Bool, true, false, cond}
use Prim.Native.Nat.{ℕ, zero, suc, ◌-◌, ◌*◌, ◌<◌, ◌≤◌}
use native.Mathlib.Nat.{mul-le-mul}
use native.Mathlib.Omega.{arith}
use lib.Dec.{ltb}
use borrow.Author.Tests.{ltb-true, eq-eqb}
use Rattle.duality.specs.Steps.{utility}
use Rattle.board.specs.Limits.{max_weight}
use Rattle.bidding.specs.Floors.{pence_of}
use Rattle.bidding.specs.Leader.{Rates, rated_weight}
use Rattle.bidding.proofs.AboveFloors.{rounded-up}
use Rattle.bidding.proofs.Offers.{rated-weight}

-- An edge of weight w at price y, in a row and as step 1 has tested it; `shut` tells whether its item is withdrawn
abbrev open_weight : ℕ → ℕ → ℕ → ℕ → Bool → ℕ
open_weight p q w y shut = cond (ltb (p * cond shut 0 w) (utility q (cond shut 0 w) y)) (cond shut 0 w) 0

pub record Rating (p q w y : ℕ) (shut : Bool) (t : ℕ) : Type 0 where
  pub rates : Rates q t w y (pence_of q y)
  pub weight : rated_weight t w ≡ open_weight p q w y shut

-- No rate
unrated : (p q w y : ℕ) (shut : Bool) (t : ℕ) → open_weight p q w y shut ≡ 0 → t ≡ 0 → Rating p q w y shut t
unrated p q w y shut t e z = record { rates = λ l. absurd (omega arith); weight = rw (eq-eqb t 0 z) (sym e) }

pub rating : (p q w y : ℕ) (shut : Bool) (t : ℕ) → 1 ≤ p → p < q → w ≤ max_weight → t ≡ open_weight p q w y shut - pence_of q y → Rating p q w y shut t
rating p q w y true t hp lq hw e =
    let none : open_weight p q w y true ≡ 0 = go (ltb (p * 0) (utility q 0 y)) in
    unrated p q w y true t none (e ∙ rw none (omega arith))
  where
    go : (b : Bool) → ◌≡◌ {A = ℕ} (cond b 0 0) 0
    go true = refl
    go false = refl
rating p q w y false t hp lq hw e = go (ltb (p * w) (utility q w y)) refl e
  where
    has : (v : ℕ) → p * v < utility q v y → 0 < v
    has zero l = absurd (omega arith)
    has (suc v) l = omega arith

    go : (b : Bool) → ltb (p * w) (utility q w y) ≡ b → t ≡ cond b w 0 - pence_of q y → Rating p q w y false t
    go true f is =
        let opens : p * w < utility q w y = ltb-true (p * w) (utility q w y) f in
        let some : 1 * 1 ≤ p * w = mul-le-mul hp (has w opens) in
        let r = rounded-up q w y (omega arith) hw (omega arith) in
        record {
          rates = λ l. (record { offered = omega arith; above = rw is r.0; within = rw is r.1 }, is);
          weight = rated-weight t w (rw is r.2) ∙ rw f refl;
        }
    go false f is = unrated p q w y false t (rw f refl) (is ∙ omega arith)
