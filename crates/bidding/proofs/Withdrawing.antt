-- The chains of a withdrawal, one after the other: they have one outcome, which is computed, and they leave a sound board.
use mathlib.Core.Path.{◌≡◌, refl, sym, ap, ap₂, subst, subst₂, ◌∙◌}
use mathlib.Core.Logic.{◌⊎◌, inl, inr, ⊎_elim}
use mathlib.Core.Bool.{Bool, true, false, ◌&&◌}
use mathlib.Core.List.{List, [], ◌∷◌, ◌++◌}
use Prim.Native.Nat.{ℕ, zero, suc, ◌+◌, ◌-◌, ◌*◌, ◌≤◌, ◌<◌}
use native.Mathlib.Nat.{zero-add, add-zero, add_assoc, eq-or-lt_of_le, suc_inj}
use native.Mathlib.Omega.{arith}
use lib.Dec.{ltb}
use borrow.Author.Tests.{ltb-true, lt-ltb, eq-eqb, ne_eqb}
use Rattle.duality.proofs.Decide.{clash, false-is, true-decides}
use Rattle.board.specs.declared.record.Auction.{Auction}
use Rattle.board.specs.declared.record.Market.{Market}
use Rattle.board.specs.Limits.{max_items, max_bidders, max_q}
use Rattle.board.specs.Cells.{holder_at}
use Rattle.board.specs.Live.{matching_of}
use Rattle.board.specs.Sound.{Sound}
use Rattle.bidding.specs.Potential.{potential}
use Rattle.bidding.specs.Rule.{AfterChain, Chain, stays, takes, displaces, Outcome, done, spent, after_chain, displaced, placed_at, settle_of, fuel_of, hand_over}
use Rattle.bidding.specs.Moves.{released, withdrawn_one_of}
use Rattle.bidding.specs.Waiting.{SoundBut, Ready}
use Rattle.bidding.specs.RuleLaws.{Settles}
use Rattle.bidding.specs.Withdrawals.{displaced_if, vacated, vacated_to, named_in, holds_named, roll_of, marked, Vacates, Chains, ended, next, more_bids, next_chain, chains_from, withdrawn_of}
use Rattle.bidding.specs.WithdrawalLaws.{Listed, ChainsOnce, WithdrawnIsChains, EmptyList, ListOfOne}
use Rattle.bidding.proofs.Waiting.{sound-is-settled}
use Rattle.bidding.proofs.Frame.{framed}
use Rattle.bidding.proofs.Bids.{waits-as}
use Rattle.bidding.proofs.Potentials.{potential-within, limit-displaced}
use Rattle.bidding.proofs.Chains.{chain-once, chain-ends, settle-is-chain}
use Rattle.bidding.proofs.Turns.{limit-small}
use Rattle.bidding.proofs.Rolls.{roll-none, roll-one, roll-as}
use Rattle.bidding.proofs.Vacating.{stage}

-- ---- There is one outcome
chains-same : {b c d : Auction} {xs : List ℕ} {n m : ℕ} → Chains b xs c n → Chains b xs d m → (c ≡ d) × (n ≡ m)
chains-same ended ended = (refl, refl)
chains-same {d = z} (next {b = b} {c = c} {d = d} {x = x} {n = n} {m = m} {xs = xs} r t) (next {c = e} {n = k} {m = j} u v) =
    let (same, count) = chain-once b c e x n k r u in
    let w = chains-same (subst (λ c. Chains c xs d m) same t) v in
    (w.0, rw (count, w.1) refl)

pub chains_once : ChainsOnce
chains_once b c d xs n m r t = chains-same r t

-- ---- One chain more
chains-snoc : {b c d : Auction} {xs : List ℕ} {x n m : ℕ} → Chains b xs c n → Chain c x d m → Chains b (xs ++ (x ∷ [])) d (n + m)
chains-snoc {b} {d = d} {x = x} {m = m} ended r = subst (λ k. Chains b (x ∷ []) d k) (add-zero m ∙ sym (zero-add m)) (next r ended)
chains-snoc {d = z} {x = y} {m = k} (next {b = b} {x = x} {n = n} {m = m} {xs = xs} t u) r =
    subst (λ j. Chains b (x ∷ (xs ++ (y ∷ []))) z j) (sym (add_assoc n m k)) (next t (chains-snoc u r))

from-snoc : (o : Outcome AfterChain) (xs : List ℕ) (x : ℕ) → chains_from o (xs ++ (x ∷ [])) ≡ next_chain (chains_from o xs) x
unfolding chains_from
from-snoc o [] x = refl
from-snoc o (y ∷ xs) x = from-snoc (next_chain o y) xs x

-- A chain keeps the market
chain-market : {b c : Auction} {i n : ℕ} → Chain b i c n → c.market ≡ b.market
unfolding placed_at displaced
chain-market (stays h) = refl
chain-market (takes c s e) = refl
chain-market (displaces c s e r) = chain-market r

-- ---- Between two chains: those of the set below h have bid, and the others wait
pub record Between (b₀ : Auction) (member : ℕ → Bool) (h : ℕ) (b : Auction) (bids : ℕ) : Type 0 where
  pub computed : chains_from (done (after_chain b₀ 0)) (roll_of member h) ≡ done (after_chain b bids)
  pub chains : Chains b₀ (roll_of member h) b bids
  pub sound : SoundBut (λ x. (member x ≡ true) × (h ≤ x)) b
  pub counted : bids + potential b₀ ≤ potential b
  pub market : b.market ≡ b₀.market

pub between_none : {b : Auction} {member : ℕ → Bool} → SoundBut (λ x. member x ≡ true) b → Between b member 0 b 0
unfolding roll_of chains_from
between_none s =
    record {
      computed = refl;
      chains = ended;
      sound = waits-as (λ x l. (λ e. (e, omega arith), λ u. u.0)) s;
      counted = omega arith;
      market = refl;
    }

module _ {b₀ : Auction} {member : ℕ → Bool} {h : ℕ} {b : Auction} {bids : ℕ} (t : Between b₀ member h b bids) (l : h < b.market.arrived) where
  -- Bidder h + 1 is not of the set
  pub between-off : member h ≡ false → Between b₀ member (suc h) b bids
  unfolding roll_of
  between-off e =
      record {
        computed = rw e t.computed;
        chains = rw e t.chains;
        sound = waits-as (λ x m. (λ u. (u.0, ⊎_elim (λ (q : h ≡ x). absurd (clash (member h) (rw (← q) at u.0) e)) (λ k. k) (eq-or-lt_of_le u.1)), λ u. (u.0, omega arith))) t.sound;
        counted = t.counted;
        market = t.market;
      }

  -- It is, and bids: the others wait
  abbrev later : ℕ → Bool
  later x = member x && ltb h x

  later-is : (x : ℕ) → later x ≡ true → (member x ≡ true) × (h < x)
  later-is x = go (member x) refl
    where
      go : (v : Bool) → member x ≡ v → v && ltb h x ≡ true → (member x ≡ true) × (h < x)
      go true q e = (q, ltb-true h x e)
      go false q e = absurd (clash false e refl)

  is_later : (x : ℕ) → member x ≡ true → h < x → later x ≡ true
  is_later x e k = rw (e, lt-ltb h x k)

  now-bids : member h ≡ true → SoundBut (λ x. (later x ≡ true) ⊎ (x ≡ h)) b
  now-bids e =
      waits-as (λ x m. (
        λ u. ⊎_elim (λ (q : h ≡ x). inr (sym q)) (λ k. inl (is_later x u.0 k)) (eq-or-lt_of_le u.1),
        ⊎_elim (λ v. let u = later-is x v in (u.0, omega arith)) (λ (q : x ≡ h). rw q (e, omega arith)),
      )) t.sound

  not-later : later h ≡ true → ⊥
  not-later v = omega (arith, (later-is h v).1)

  pub between-ready : member h ≡ true → Ready b h
  between-ready e = record { bidder = l; others = later; new = sym (false-is (later h) (true-decides _) not-later); sound = now-bids e }

  pub between-on : member h ≡ true → (c : Auction) (n : ℕ) → done (after_chain c n) ≡ settle_of (fuel_of b) b h 0 → Between b₀ member (suc h) c (bids + n)
  unfolding roll_of next_chain more_bids
  between-on e c n q =
      let s = settle-is-chain (λ x. later x ≡ true) b h (now-bids e) l not-later in
      let same = outcome s q in
      let chain = subst₂ (λ c n. Chain b h c n) same.0 same.1 s.chain in
      let w = chain-ends (λ x. later x ≡ true) b c h n (now-bids e) l not-later chain in
      record {
        computed = rw e (from-snoc _ (roll_of member h) h ∙ ap (λ o. next_chain o h) t.computed ∙ ap (more_bids bids) (sym q));
        chains = rw e (chains-snoc t.chains chain);
        sound = waits-as (λ x m. (later-is x, λ u. is_later x u.0 u.1)) w.sound;
        counted = omega (arith, t.counted, w.counted);
        market = chain-market chain ∙ t.market;
      }
    where
      outcome : (s : Settles b h) → done (after_chain c n) ≡ settle_of (fuel_of b) b h 0 → (s.board ≡ c) × (s.bids ≡ n)
      outcome s q =
          let e : done (after_chain s.board s.bids) ≡ done (after_chain c n) = sym s.computed ∙ sym q in
          let f : after_chain s.board s.bids ≡ after_chain c n = cc in
          (ap (λ (a : AfterChain). a.auction) f, ap (λ (a : AfterChain). a.bids) f)

-- All bids so far fit the code's type
pub between-fits : {b₀ : Auction} {member : ℕ → Bool} {h : ℕ} {b : Auction} {bids : ℕ} → Between b₀ member h b bids → bids ≤ max_bidders * max_items * max_q
between-fits {b = b} t = let s = t.sound in omega (arith, t.counted, potential-within b, limit-small b s.items.1 s.arrived s.slack.high)

-- ---- All chains
record Run (b₀ : Auction) (member : ℕ → Bool) (h : ℕ) : Type 0 where
  board : Auction
  bids : ℕ
  between : Between b₀ member h board bids

runs_to : {b₀ : Auction} {member : ℕ → Bool} → SoundBut (λ x. member x ≡ true) b₀ → (h : ℕ) → h ≤ b₀.market.arrived → Run b₀ member h
runs_to {b₀} s zero l = record { board = b₀; bids = 0; between = between_none s }
runs_to {b₀} {member} s (suc h) l = go (runs_to s h (omega arith)) (member h) refl
  where
    go : (r : Run b₀ member h) (v : Bool) → member h ≡ v → Run b₀ member (suc h)
    go r true q =
        let t = r.between in
        let k : h < r.board.market.arrived = omega (arith, l, ap (λ (m : Market). m.arrived) t.market) in
        let y = between-ready t k q in
        let u = settle-is-chain (λ x. y.others x ≡ true) r.board h y.sound k (λ v. clash _ v y.new) in
        record { board = u.board; bids = r.bids + u.bids; between = between-on t k q u.board u.bids (sym u.computed) }
    go r false q =
        let t = r.between in
        let k : h < r.board.market.arrived = omega (arith, l, ap (λ (m : Market). m.arrived) t.market) in
        record { board = r.board; bids = r.bids; between = between-off t k q }

-- Nobody waits any more
pub all_settled : {b₀ b : Auction} {member : ℕ → Bool} {bids : ℕ} → Between b₀ member b.market.arrived b bids → Sound b
all_settled {b = b} t = (sound-is-settled b).1 (waits-as (λ x l. (λ u. absurd (omega (arith, u.1)), λ v. absurd v)) t.sound)

pub withdrawn-is-chains : WithdrawnIsChains
unfolding withdrawn_of
withdrawn-is-chains b item n s w =
    let t = stage s item n w in
    let r = runs_to t.sound b.market.arrived (omega (arith, t.all.arrived)) in
    let m : r.board.market.arrived ≡ b.market.arrived = ap (λ (m : Market). m.arrived) r.between.market ∙ t.all.arrived in
    record {
      board = r.board;
      bids = r.bids;
      computed = r.between.computed;
      chains = r.between.chains;
      sound = all_settled (subst (λ h. Between (vacated_to b item n) (holds_named b item n) h r.board r.bids) (sym m) r.between);
      counted = omega (arith, r.between.counted, t.counted);
    }

-- The marks' chains are the withdrawal's
pub marked-chains : {b₀ : Auction} (s : Sound b₀) {item : ℕ → ℕ} {n : ℕ} → Listed b₀ item n → {b : Auction} {waiting : List Bool} → Vacates b₀ item n b waiting →
    chains_from (done (after_chain b 0)) (roll_of (marked waiting) b.market.arrived) ≡ withdrawn_of b₀ item n
unfolding withdrawn_of
marked-chains {b₀} s {item} {n} l {b} {waiting} v =
    let same : b.market.arrived ≡ b₀.market.arrived = ap (λ (c : Auction). c.market.arrived) v.board ∙ (stage s item n l).all.arrived in
    ap₂ (λ (c : Auction) (xs : List ℕ). chains_from (done (after_chain c 0)) xs) v.board
    (ap (roll_of (marked waiting)) same ∙ roll-as (marked waiting) (holds_named b₀ item n) b₀.market.arrived v.marks)

-- ---- Lists of none and of one
pub empty-list : EmptyList
unfolding withdrawn_of vacated_to chains_from named_in
empty-list b item = rw (roll-none (holds_named b item 0) b.market.arrived (λ h l. refl))

no_more : (o : Outcome AfterChain) → more_bids 0 o ≡ o
unfolding more_bids
no_more spent = refl
no_more (done s) = ap (λ n. done (after_chain s.auction n)) (zero-add s.bids)

pub list-of-one : ListOfOne
unfolding withdrawn_of withdrawn_one_of vacated_to vacated displaced_if chains_from next_chain hand_over named_in
list-of-one b item k s lk e = go (holder_at b k) refl
  where
    less : suc k - 1 ≡ k
    less = omega arith

    named : {h : ℕ} → item 0 ≡ matching_of b h → holder_at b k ≡ suc h
    named {h} q = ((framed ((sound-is-settled b).0 s)).names.cell h k (sym q ∙ e)).1

    go : (c : ℕ) → holder_at b k ≡ c → withdrawn_of b item 1 ≡ withdrawn_one_of b k
    go zero f =
        let none = roll-none (holds_named b item 1) b.market.arrived (λ h l. ne_eqb (item 0) (matching_of b h) (λ q. omega (arith, f, named q))) in
        rw (none, e, less, f) refl
    go (suc x) f =
        let u = s.holders k x lk f in
        let one = roll-one (holds_named b item 1) b.market.arrived x u.0 (eq-eqb (item 0) (matching_of b x) (e ∙ sym u.1))
        (λ h l ne. ne_eqb (item 0) (matching_of b h) (λ q. ne (suc_inj (sym (named q) ∙ f)))) in
        rw (one, e, less, f, limit-displaced (released b k) x) (no_more _)
