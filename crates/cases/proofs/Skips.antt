-- A case is played on sound boards, so the test of soundness need not be computed again at each call.
use Rattle.std.specs.Prelude.{Err, Ok, Result}
use mathlib.Core.Path.{◌≡◌, refl, sym, ap, ◌∙◌}
use mathlib.Core.Bool.{not}
use mathlib.Core.List.{List, [], ◌∷◌}
use lib.ListN.{length}
use Prim.Native.Nat.{ℕ}
use native.Mathlib.Omega.{arith}
use Rattle.supply.specs.declared.record.Board.{Board}
use Rattle.board.specs.declared.record.Edge.{Edge}
use Rattle.auction.specs.Arrive.{Arrival, arrive_rest, arrive_by, arrive_of}
use Rattle.auction.specs.Withdraw.{Withdrawal, withdraw_rest, withdraw_by, withdraw_of}
use Rattle.supply.specs.Sound.{Sound}
use Rattle.bidding.specs.Rule.{Outcome, done, spent}
use Rattle.refusals.specs.Codes.{code_of}
use Rattle.refusals.specs.declared.Refusal.{Refusal}
use Rattle.refusals.specs.Demand1.{Check, check_for, first_of, Verdict}
use Rattle.board.specs.Lent.{Lists, room_test}
use Rattle.supply.specs.Opening.{open_of, open_checks, open_by}
use Rattle.auction.specs.ReadOut.{ReadOutcome, read_out_by, read_out_of}
use Rattle.certificate.specs.Check.{check_by, check_of, check_rest}
use Rattle.comparison.specs.Compare.{compare_by}
use Rattle.comparison.proofs.Outcomes.{plans_on}
use Rattle.counting.specs.Call.{count_by}
use Rattle.cases.proofs.Outcomes.{large_check, compare-plans, count-sound}
use Rattle.supply.proofs.SoundLaw.{sound-decides}
use Rattle.auction.proofs.Demand2.{arrive-demand-2, withdraw-demand-2}
use Rattle.supply.proofs.Openings.{opened-sound}
use Rattle.cases.specs.Play.{Call, arrive, withdraw, check, read_out, compare, count_slow, after_check, after_read_out, after_compare, after_count, Case, Seen, refusal, seen, played, withdrew, after_arrive, after_withdraw, play_all, opening, play}

-- Of a read-out's checks the one after the test
abbrev room_check : Board → Lists → List Check
room_check b l = check_for Refusal.Short (not (room_test b.market.arrived b.items.count (length l.plan) (length l.prices) (length l.gains))) ∷ []

-- The calls without the test
unfoldable pub skip_all : List Call → Board → List ℕ → Seen
skip_all [] b bids = seen b bids
skip_all (arrive edges ∷ rest) b bids = after_arrive (skip_all rest) bids (arrive_by b edges (first_of (arrive_rest b edges)))
skip_all (withdraw items ∷ rest) b bids = after_withdraw (skip_all rest) bids (withdraw_by b items (first_of (withdraw_rest b items)))
skip_all (check l p q ∷ rest) b bids = after_check (check_by b l (first_of (check_rest b l p q)))
skip_all (read_out l ∷ rest) b bids = after_read_out (read_out_by b l (first_of (room_check b l))).lists (read_out_by b l (first_of (room_check b l))).answer
skip_all (compare first second ∷ rest) b bids = after_compare (compare_by b first second (first_of (plans_on b first second)))
skip_all (count_slow ∷ rest) b bids = after_count (count_by b (first_of (large_check b)))

pub arrive-skips : (b : Board) (edges : List Edge) → Sound b → arrive_of b edges ≡ arrive_by b edges (first_of (arrive_rest b edges))
unfolding arrive_of first_of
arrive-skips b edges s = let e = (sound-decides b).complete s in rw e

pub withdraw-skips : (b : Board) (items : List ℕ) → Sound b → withdraw_of b items ≡ withdraw_by b items (first_of (withdraw_rest b items))
unfolding withdraw_of first_of
withdraw-skips b items s = let e = (sound-decides b).complete s in rw e

check-skips : (b : Board) (l : Lists) (p q : ℕ) → Sound b → check_of b l p q ≡ check_by b l (first_of (check_rest b l p q))
unfolding check_of first_of
check-skips b l p q s = let e = (sound-decides b).complete s in rw e

read-out-skips : (b : Board) (l : Lists) → Sound b → read_out_of b l ≡ read_out_by b l (first_of (room_check b l))
unfolding read_out_of first_of
read-out-skips b l s = let e = (sound-decides b).complete s in rw e

module _ (rest : List Call) (ih : (b : Board) (bids : List ℕ) → Sound b → play_all rest b bids ≡ skip_all rest b bids) where
  after-arrive : (b : Board) (edges : List Edge) (bids : List ℕ) (o : Outcome Arrival) → arrive_of b edges ≡ o →
      after_arrive (play_all rest) bids o ≡ after_arrive (skip_all rest) bids o
  unfolding after_arrive played
  after-arrive b edges bids spent e = refl
  after-arrive b edges bids (done a) e = go a.answer refl
    where
      go : (x : Result ℕ Refusal) → a.answer ≡ x → played (play_all rest) bids a.board x ≡ played (skip_all rest) bids a.board x
      go (Ok n) h =
          let f : arrive_of b edges ≡ done (record { board = a.board; answer = Ok n }) = rw (← h) e in
          ih a.board (n ∷ bids) (arrive-demand-2 b a.board edges n (record { answer = Ok n; outcome = f; tells = refl })).after
      go (Err r) h = refl

  after-withdraw : (b : Board) (items : List ℕ) (bids : List ℕ) (o : Outcome Withdrawal) → withdraw_of b items ≡ o →
      after_withdraw (play_all rest) bids o ≡ after_withdraw (skip_all rest) bids o
  unfolding after_withdraw withdrew
  after-withdraw b items bids spent e = refl
  after-withdraw b items bids (done a) e = go a.answer refl
    where
      go : (x : Result ℕ Refusal) → a.answer ≡ x → withdrew (play_all rest) bids a.board x ≡ withdrew (skip_all rest) bids a.board x
      go (Ok n) h =
          let f : withdraw_of b items ≡ done (record { board = a.board; answer = Ok n }) = rw (← h) e in
          ih a.board (n ∷ bids) (withdraw-demand-2 b a.board items n (record { answer = Ok n; outcome = f; tells = refl })).after
      go (Err r) h = refl

all-skip : (calls : List Call) (b : Board) (bids : List ℕ) → Sound b → play_all calls b bids ≡ skip_all calls b bids
unfolding play_all skip_all
all-skip [] b bids s = refl
all-skip (arrive edges ∷ rest) b bids s =
    after-arrive rest (all-skip rest) b edges bids _ refl ∙ ap (after_arrive (skip_all rest) bids) (arrive-skips b edges s)
all-skip (withdraw items ∷ rest) b bids s =
    after-withdraw rest (all-skip rest) b items bids _ refl ∙ ap (after_withdraw (skip_all rest) bids) (withdraw-skips b items s)
all-skip (check l p q ∷ rest) b bids s = ap after_check (check-skips b l p q s)
all-skip (read_out l ∷ rest) b bids s = ap (λ (o : ReadOutcome). after_read_out o.lists o.answer) (read-out-skips b l s)
all-skip (compare first second ∷ rest) b bids s = ap after_compare (sym (compare-plans b first second ((sound-decides b).complete s)))
all-skip (count_slow ∷ rest) b bids s = ap after_count (sym (count-sound b ((sound-decides b).complete s)))

unfoldable pub skip_opening : List Call → Board → Verdict → Seen
skip_opening calls b (Ok tt) = skip_all calls b []
skip_opening calls b (Err r) = refusal (code_of r)

unfoldable pub skip : Case → Seen
skip c = skip_opening c.calls (open_of c.items c.p c.q c.counts).board (open_of c.items c.p c.q c.counts).answer

pub ready-sound : (items p q : ℕ) (counts : List ℕ) → (open_of items p q counts).answer ≡ Ok tt → Sound (open_of items p q counts).board
unfolding open_of open_by
ready-sound items p q counts h = go (first_of (open_checks items p q counts)) refl h
  where
    go : (v : Verdict) → first_of (open_checks items p q counts) ≡ v → (open_by p q counts v).answer ≡ Ok tt → Sound (open_by p q counts v).board
    go (Err r) e h = let z : ◌≡◌ {A = ℕ} 0 1 = cc in absurd (omega arith)
    go (Ok tt) e h = opened-sound items p q counts e

pub play-skips : (c : Case) → play c ≡ skip c
unfolding play opening skip skip_opening
play-skips c = go (open_of c.items c.p c.q c.counts).answer refl
  where
    go : (a : Verdict) → (open_of c.items c.p c.q c.counts).answer ≡ a →
        opening c.calls (open_of c.items c.p c.q c.counts).board a ≡ skip_opening c.calls (open_of c.items c.p c.q c.counts).board a
    go (Ok tt) e = all-skip c.calls _ [] (ready-sound c.items c.p c.q c.counts e)
    go (Err r) e = refl
