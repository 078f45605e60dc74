-- What the check accepts, both ways.
use Rattle.std.specs.Prelude.{Ok}
use mathlib.Core.Path.{◌≡◌, ◌∙◌}
use Prim.Native.Nat.{ℕ}
use Rattle.duality.specs.Lists.{cells}
use Rattle.supply.specs.declared.record.Board.{Board}
use Rattle.supply.specs.Board.{places_at}
use Rattle.supply.specs.ByItem.{withdrawn_at, live}
use Rattle.supply.specs.Sound.{Sound}
use Rattle.board.specs.Ranges.{SlackIn}
use Rattle.refusals.specs.Demand1.{first_of}
use Rattle.board.specs.Lent.{Lists}
use Rattle.board.proofs.Tests.{slack-decides}
use Rattle.supply.proofs.SoundLaw.{sound-decides}
use Rattle.refusals.proofs.Verdicts.{first_on, served-both}
use Rattle.certificate.specs.Check.{Even, check_checks, check_by, check_of, list_checks, check_rest}
use Rattle.certificate.specs.Accepted.{Accepted, TotalsAccepted, AcceptedTotals}
use Rattle.refusals.proofs.Places.{test-served, test-serves}
use Rattle.matching.proofs.Clashes.{unclashed-matches}
use Rattle.certificate.proofs.Served.{price-served, gain-served, bare-served}
use Rattle.certificate.proofs.Tests.{lists-even}
use Rattle.certificate.proofs.Outcomes.{checked-totals, lists_of, by-totals}

module _ (b : Board) (l : Lists) (p q : ℕ) where
  -- The bidders, the items and the live weights
  abbrev n : ℕ
  n = b.market.arrived

  abbrev m : ℕ
  m = b.items.count

  abbrev w : ℕ → ℕ → ℕ
  w = live b

  -- Of a sound board, a slack in its range and lists of the right lengths, the lists' own refusals decide
  pub lists-accepted : Sound b → SlackIn 0 p q → Even b l → first_of (lists_of b l p q) ≡ Ok tt → Accepted b l p q
  unfolding list_checks
  lists-accepted sound slack even e =
      let (plan, e₁) = served-both _ _ e in
      let (prices, e₂) = served-both _ _ e₁ in
      let (gains, bare) = served-both _ _ e₂ in
      record {
        sound = sound;
        slack = slack;
        even = even;
        matches = (unclashed-matches n m (places_at b) w (cells l.plan)).0 plan;
        prices = λ k h. ((price-served m (withdrawn_at b) (cells l.prices)).0 prices k h).0;
        withdrawn = λ k h. ((price-served m (withdrawn_at b) (cells l.prices)).0 prices k h).1;
        gains = (gain-served n m (cells l.gains)).0 gains;
        covers = (bare-served n m w p q (cells l.prices) (cells l.gains)).0 bare;
      }

  accepted : first_of (check_checks b l p q) ≡ Ok tt → Accepted b l p q
  unfolding check_rest
  accepted e =
      let (sound, e₁) = test-served _ _ _ e in
      let (slack, e₂) = test-served _ _ _ e₁ in
      let (even, e₃) = test-served _ _ _ e₂ in
      lists-accepted ((sound-decides b).sound sound) ((slack-decides 0 p q).sound slack) ((lists-even b l).sound even) e₃

  served : Accepted b l p q → first_of (check_checks b l p q) ≡ Ok tt
  unfolding check_rest list_checks
  served a =
      test-serves _ _ _ ((sound-decides b).complete a.sound)
      (test-serves _ _ _ ((slack-decides 0 p q).complete a.slack)
      (test-serves _ _ _ ((lists-even b l).complete a.even)
      (first_on _ _ ((unclashed-matches n m (places_at b) w (cells l.plan)).1 a.matches) ∙
      (first_on _ _ ((price-served m (withdrawn_at b) (cells l.prices)).1 (λ k h. (a.prices k h, a.withdrawn k h))) ∙
      (first_on _ _ ((gain-served n m (cells l.gains)).1 a.gains) ∙
      (bare-served n m w p q (cells l.prices) (cells l.gains)).1 a.covers)))))

pub totals-accepted : TotalsAccepted
unfolding check_of
totals-accepted b l p q weight sum e = accepted b l p q (by-totals b l _ _ _ (checked-totals _ weight sum e))

pub accepted-totals : AcceptedTotals
unfolding check_of check_by
accepted-totals b l p q a = rw (served b l p q a)
