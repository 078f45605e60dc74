-- The first check that is met: demand 1 of any call, once.
use Rattle.std.specs.Prelude.{Result, Ok, Err, IsErrAnd}
use Rattle.std.proofs.lemmas.Result.{err_from_is_err_and}
use mathlib.Core.Path.{◌≡◌, refl, sym, ap, ◌∙◌}
use mathlib.Core.Bool.{Bool, true, false, cond}
use mathlib.Core.List.{List, [], ◌∷◌, ◌++◌}
use mathlib.Core.Logic.{◌↔◌}
use Prim.Native.Nat.{ℕ, ◌-◌}
use lib.ListN.{get_or}
use native.Mathlib.Omega.{arith}
use Rattle.duality.specs.Decide.{Decides}
use Rattle.duality.proofs.Decide.{clash, false-is}
use Rattle.refusals.specs.declared.Refusal.{Refusal}
use Rattle.refusals.specs.declared.Refusal.TheVariants.{Count, Slack, Full, Unknown, Gone, Worth, Order, Short, Uneven, Clash, Price, Bare, Spoilt, Line, Long, Places, Large}
use Rattle.refusals.specs.Codes.{Code, code_of, CodesApart}
use Rattle.refusals.specs.Demand1.{Check, check_for, first_of, Unmet, none, also, Leads, Demand1, Verdict}

-- The table's rows at a place, and the one with a number
abbrev rows : ℕ → List Refusal
rows i = Count ∷ Slack ∷ Full ∷ Unknown i ∷ Gone i ∷ Worth i ∷ Order i ∷ Short ∷ Uneven ∷ Clash i ∷ Price i ∷ Bare i ∷ Spoilt ∷ Line i ∷ Long ∷ Places i ∷ Large ∷ []

abbrev row_of : Code → Refusal
row_of c = get_or (rows c.place) (c.number - 1) Count

row-of : (r : Refusal) → row_of (code_of r) ≡ r
row-of Count = refl
row-of Slack = refl
row-of Full = refl
row-of (Unknown i) = refl
row-of (Gone i) = refl
row-of (Worth i) = refl
row-of (Order i) = refl
row-of Short = refl
row-of Uneven = refl
row-of (Clash i) = refl
row-of (Price i) = refl
row-of (Bare i) = refl
row-of Spoilt = refl
row-of (Line i) = refl
row-of Long = refl
row-of (Places i) = refl
row-of Large = refl

pub codes-apart : CodesApart
codes-apart r s e = sym (row-of r) ∙ (ap row_of e ∙ row-of s)

apart : (r : Refusal) → ◌≡◌ {A = Verdict} (Ok tt) (Err r) → ⊥
apart r e = let z : ◌≡◌ {A = ℕ} 0 1 = cc in omega arith

-- Each check's test decides whether its refusal is met
pub data Decided (Met : Refusal → Type 0) : List Check → Type 0 where
  ends : Decided Met []
  next : {c : Check} {rest : List Check} → Decides c.test (Met c.refusal) → Decided Met rest → Decided Met (c ∷ rest)

pub decided-append : {Met : Refusal → Type 0} {xs ys : List Check} → Decided Met xs → Decided Met ys → Decided Met (xs ++ ys)
decided-append ends e = e
decided-append (next d ds) e = next d (decided-append ds e)

module _ (Met : Refusal → Type 0) where
  later : (c : Check) (rest : List Check) (r : Refusal) → (Met c.refusal → ⊥) → Leads Met rest r → Leads Met (c ∷ rest) r
  later c rest r f l =
      record {
        before = c ∷ l.before;
        test = l.test;
        after = l.after;
        stands = ap (λ (x : List Check). c ∷ x) l.stands;
        met = l.met;
        unmet = also f l.unmet;
      }

  pub refuses : {checks : List Check} → Decided Met checks → (r : Refusal) → first_of checks ≡ Err r → Leads Met checks r
  unfolding first_of
  refuses ends r e = absurd (apart r e)
  refuses (next {c} {rest} d ds) r e = go c.test refl e (refuses ds r)
    where
      go : (t : Bool) → c.test ≡ t → cond t (Err c.refusal) (first_of rest) ≡ Err r → (first_of rest ≡ Err r → Leads Met rest r) → Leads Met (c ∷ rest) r
      go true q e f =
          let same : c.refusal ≡ r = cc in
          rw (← same) (record { before = []; test = c.test; after = rest; stands = refl; met = d.sound q; unmet = none })
      go false q e f = later c rest r (λ m. clash c.test (d.complete m) q) (f e)

  pub serves : {checks : List Check} → Decided Met checks → first_of checks ≡ Ok tt → Unmet Met checks
  unfolding first_of
  serves ends e = none
  serves (next {c} {rest} d ds) e = go c.test refl e (serves ds)
    where
      go : (t : Bool) → c.test ≡ t → cond t (Err c.refusal) (first_of rest) ≡ Ok tt → (first_of rest ≡ Ok tt → Unmet Met rest) → Unmet Met (c ∷ rest)
      go true q e f = absurd (apart c.refusal (sym e))
      go false q e f = also (λ m. clash c.test (d.complete m) q) (f e)

  pub served_by : {checks : List Check} → Decided Met checks → Unmet Met checks → first_of checks ≡ Ok tt
  unfolding first_of
  served_by ends none = refl
  served_by (next {c} {rest} d ds) (also f u) = let q = sym (false-is c.test d f) in rw q (served_by ds u)

  -- What is unmet is passed over
  passes : (before after : List Check) (r : Refusal) (t : Bool) → Decided Met (before ++ (check_for r t ∷ after)) → Unmet Met before → Met r →
      first_of (before ++ (check_for r t ∷ after)) ≡ Err r
  unfolding first_of
  passes [] after r t (next d ds) none m = let q : t ≡ true = d.complete m in rw q
  passes (c ∷ before) after r t (next d ds) (also f u) m =
      let q = sym (false-is c.test d f) in rw q (passes before after r t ds u m)

  pub refused_by : {checks : List Check} → Decided Met checks → (r : Refusal) → Leads Met checks r → first_of checks ≡ Err r
  refused_by {checks} ds r l =
      ap first_of l.stands ∙ passes l.before l.after r l.test (rw l.stands at ds) l.unmet l.met

-- A call that answers by its verdict
pub demand-1 : {Met : Refusal → Type 0} {checks : List Check} {Answers : Refusal → Type 0} {Serves : Type 0} → Decided Met checks →
    ((r : Refusal) → (first_of checks ≡ Err r) ↔ Answers r) → (first_of checks ≡ Ok tt) ↔ Serves → Demand1 Met checks Answers Serves
demand-1 {Met} ds refused served =
    record {
      refuses = λ r a. refuses Met ds r ((refused r).1 a);
      refused_by = λ r l. (refused r).0 (refused_by Met ds r l);
      serves = λ s. serves Met ds (served.1 s);
      served_by = λ u. served.0 (served_by Met ds u);
      numbered = λ c. (
        λ a. record { refusal = a.refusal; coded = a.coded; holds = refuses Met ds a.refusal ((refused a.refusal).1 a.holds) },
        λ a. record { refusal = a.refusal; coded = a.coded; holds = (refused a.refusal).0 (refused_by Met ds a.refusal a.holds) },
      );
    }

-- The same answers in other words
pub demand-1-as : {Met : Refusal → Type 0} {checks : List Check} {A B : Refusal → Type 0} {S T : Type 0} →
    Demand1 Met checks A S → ((r : Refusal) → A r ↔ B r) → S ↔ T → Demand1 Met checks B T
demand-1-as d answers served =
    record {
      refuses = λ r a. d.refuses r ((answers r).1 a);
      refused_by = λ r l. (answers r).0 (d.refused_by r l);
      serves = λ s. d.serves (served.1 s);
      served_by = λ u. served.0 (d.served_by u);
      numbered = λ c. (
        λ a. record { refusal = a.refusal; coded = a.coded; holds = d.refuses a.refusal ((answers a.refusal).1 a.holds) },
        λ a. record { refusal = a.refusal; coded = a.coded; holds = (answers a.refusal).0 (d.refused_by a.refusal a.holds) },
      );
    }

-- A list of checks in two parts
pub first_on : (checks rest : List Check) → first_of checks ≡ Ok tt → first_of (checks ++ rest) ≡ first_of rest
unfolding first_of
first_on [] rest e = refl
first_on (c ∷ checks) rest e = go c.test e (first_on checks rest)
  where
    go : (t : Bool) → cond t (Err c.refusal) (first_of checks) ≡ Ok tt → (first_of checks ≡ Ok tt → first_of (checks ++ rest) ≡ first_of rest) →
        cond t (Err c.refusal) (first_of (checks ++ rest)) ≡ first_of rest
    go true e f = absurd (apart c.refusal (sym e))
    go false e f = f e

pub first_stops : (checks rest : List Check) (r : Refusal) → first_of checks ≡ Err r → first_of (checks ++ rest) ≡ Err r
unfolding first_of
first_stops [] rest r e = absurd (apart r e)
first_stops (c ∷ checks) rest r e = go c.test e (first_stops checks rest r)
  where
    go : (t : Bool) → cond t (Err c.refusal) (first_of checks) ≡ Err r → (first_of checks ≡ Err r → first_of (checks ++ rest) ≡ Err r) →
        cond t (Err c.refusal) (first_of (checks ++ rest)) ≡ Err r
    go true e f = e
    go false e f = f e

-- A verdict on the first part stands, or leaves it to the second
pub stops : (xs ys : List Check) (v : Verdict) (r : Refusal) → v ≡ first_of xs → v ≡ Err r → v ≡ first_of (xs ++ ys)
stops xs ys v r e s = s ∙ sym (first_stops xs ys r (sym e ∙ s))

pub passes_on : (xs ys : List Check) (v w : Verdict) → v ≡ first_of xs → v ≡ Ok tt → w ≡ first_of ys → w ≡ first_of (xs ++ ys)
passes_on xs ys v w e s h = h ∙ sym (first_on xs ys (sym e ∙ s))

-- Both are served
pub served-both : (xs ys : List Check) → first_of (xs ++ ys) ≡ Ok tt → (first_of xs ≡ Ok tt) × (first_of ys ≡ Ok tt)
served-both xs ys e = go (first_of xs) refl
  where
    go : (v : Verdict) → first_of xs ≡ v → (first_of xs ≡ Ok tt) × (first_of ys ≡ Ok tt)
    go (Ok tt) q = (q, sym (first_on xs ys q) ∙ e)
    go (Err r) q = absurd (apart r (sym e ∙ first_stops xs ys r q))

-- The first test fails, and the rest is served
pub served-next : (c : Check) (rest : List Check) → first_of (c ∷ rest) ≡ Ok tt → (c.test ≡ false) × (first_of rest ≡ Ok tt)
unfolding first_of
served-next c rest e = go c.test refl e
  where
    go : (t : Bool) → c.test ≡ t → cond t (Err c.refusal) (first_of rest) ≡ Ok tt → (c.test ≡ false) × (first_of rest ≡ Ok tt)
    go true q e = let z : ◌≡◌ {A = ℕ} 0 1 = cc in absurd (omega arith)
    go false q e = (q, e)

-- What is not served is refused
pub unserved : (checks : List Check) → (first_of checks ≡ Ok tt → ⊥) → (r : Refusal) × (first_of checks ≡ Err r)
unserved checks f = go (first_of checks) refl
  where
    go : (v : Verdict) → first_of checks ≡ v → (r : Refusal) × (first_of checks ≡ Err r)
    go (Ok tt) e = absurd (f e)
    go (Err r) e = (r, e)

-- What the exit of a `?` returns: the refusal of the call
pub refused_up : {T : Type 0} {e : Refusal} (r : Result T Refusal) → IsErrAnd r (λ x. x ≡ e) → r ≡ Err e
refused_up r h = let p = err_from_is_err_and r h in p.1 ∙ ap Err p.2

-- The same, where the call's verdict is returned
pub passed_up : {v : Verdict} {e : Refusal} (r : Verdict) → v ≡ Err e → IsErrAnd r (λ x. x ≡ e) → r ≡ v
passed_up r was h = refused_up r h ∙ sym was
