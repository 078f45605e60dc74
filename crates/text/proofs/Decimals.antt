-- Laws of decimal digits. Assumes nothing.
use mathlib.Core.Path.{◌≡◌, refl, sym, ◌∙◌, ap}
use Prim.Native.Nat.{ℕ, zero, suc, ◌+◌, ◌*◌, ◌-◌, ◌/◌, ◌%◌, ◌^◌, ◌<◌, ◌≤◌}
use native.Mathlib.Nat.{not-suc-le-zero, div-lt_self, lt-suc_self, pow-suc, div-lt_iff_lt-mul}
use native.Mathlib.Omega.{arith}
use mathlib.Core.Bool.{Bool, true, false}
use mathlib.Core.List.{List, [], ◌∷◌, ◌++◌, append_assoc, append-nil}
use lib.ListN.{length, get_or, length-append, get_or-append}
use lib.Dec.{ltb, eqb}
use borrow.Author.Tests.{lt-ltb, le-ltb, ltb-true, ltb-false, le-leb, eqb-true, eqb-false}
use Rattle.text.specs.Bytes.{is_digit}
use Rattle.text.specs.Limits.{wide_digits}
use Rattle.text.specs.Number.{digits, value_of}
use Rattle.text.specs.Print.{decimal_from, decimal}
use Rattle.text.specs.Form.{DecimalValue, DecimalFirst, AllDigits, DecimalDigits, DecimalOnly, DecimalPrinted}
use Rattle.text.proofs.Numbers.{in-range, none-front, some-front}

-- one digit, and more
step_small : (fuel n : ℕ) → n < 10 → decimal_from (suc fuel) n ≡ (48 + n) ∷ []
step_small fuel n h = rw (decimal_from, lt-ltb n 10 h)

step-large : (fuel n : ℕ) → 10 ≤ n → decimal_from (suc fuel) n ≡ decimal_from fuel (n / 10) ++ ((48 + n % 10) ∷ [])
step-large fuel n h = rw (decimal_from, le-ltb n 10 h)

smaller : (n fuel : ℕ) → 10 ≤ n → n < suc fuel → n / 10 < fuel
smaller n fuel h k = omega (arith, div-lt_self {n = n} {k = 10} (omega arith) (omega arith))

-- fuel above the number plays no part
fuel-free : (f g n : ℕ) → n < f → n < g → decimal_from f n ≡ decimal_from g n
fuel-free zero g n h k = absurd (not-suc-le-zero h)
fuel-free (suc f) zero n h k = absurd (not-suc-le-zero k)
fuel-free (suc f) (suc g) n h k = go (ltb n 10) refl (λ l. fuel-free f g (n / 10) (smaller n f l h) (smaller n g l k))
  where
    go : (t : Bool) → ltb n 10 ≡ t → (10 ≤ n → decimal_from f (n / 10) ≡ decimal_from g (n / 10)) → decimal_from (suc f) n ≡ decimal_from (suc g) n
    go true e rec = step_small f n (ltb-true n 10 e) ∙ sym (step_small g n (ltb-true n 10 e))
    go false e rec =
        let l = ltb-false n 10 e in
        step-large f n l ∙ (ap (λ (ds : List ℕ). ds ++ ((48 + n % 10) ∷ [])) (rec l) ∙ sym (step-large g n l))

pub small : (n : ℕ) → n < 10 → decimal n ≡ (48 + n) ∷ []
unfolding decimal
small n h = step_small n n h

pub large : (n : ℕ) → 10 ≤ n → decimal n ≡ decimal (n / 10) ++ ((48 + n % 10) ∷ [])
unfolding decimal
large n h =
    step-large n n h
    ∙ ap (λ (ds : List ℕ). ds ++ ((48 + n % 10) ∷ [])) (fuel-free n (suc (n / 10)) (n / 10) (div-lt_self (omega arith) (omega arith)) (lt-suc_self (n / 10)))

tenth : (n m : ℕ) → n < m * 10 → n / 10 < m
tenth n m h = (div-lt_iff_lt-mul {k = 10} (omega arith)).1 h

-- a number below 10 ^ k has at most k digits
pub short : (k n : ℕ) → n < 10 ^ suc k → length (decimal n) ≤ suc k
short zero n h = rw (small n h) (omega arith)
short (suc k) n h = go (ltb n 10) refl (short k (n / 10))
  where
    go : (t : Bool) → ltb n 10 ≡ t → (n / 10 < 10 ^ suc k → length (decimal (n / 10)) ≤ suc k) → length (decimal n) ≤ suc (suc k)
    go true e rec = rw (small n (ltb-true n 10 e)) (omega arith)
    go false e rec = rw (large n (ltb-false n 10 e), length-append) (omega (arith, rec (tenth n (10 ^ suc k) (rw (pow-suc 10 (suc k)) at h))))

-- the digits of a number of 64 bits
pub most : (n : ℕ) → n < 2 ^ 64 → length (decimal n) ≤ wide_digits
most n h = short 19 n (omega arith)

-- what holds of each digit, and of a number when of its tenth, holds of every number
pub by-tenths : (P : ℕ → Type 0) → ((n : ℕ) → n < 10 → P n) → ((n : ℕ) → 10 ≤ n → P (n / 10) → P n) → (n : ℕ) → P n
by-tenths P one more n = down (suc n) n (lt-suc_self n)
  where
    down : (fuel n : ℕ) → n < fuel → P n
    down zero n h = absurd (not-suc-le-zero h)
    down (suc fuel) n h = go (ltb n 10) refl (λ l. down fuel (n / 10) (smaller n fuel l h))
      where
        go : (t : Bool) → ltb n 10 ≡ t → (10 ≤ n → P (n / 10)) → P n
        go true e rec = one n (ltb-true n 10 e)
        go false e rec = more n (ltb-false n 10 e) (rec (ltb-false n 10 e))

-- a number has a digit
pub some-digit : (n : ℕ) → 0 < length (decimal n)
some-digit = by-tenths (λ n. 0 < length (decimal n)) (λ n h. rw (small n h) (omega arith)) (λ n h rec. rw (large n h, length-append) (omega arith))

pub first-digit : DecimalFirst
first-digit = by-tenths (λ n. 0 < n → 48 < get_or (decimal n) 0 0) (λ n h p. rw (small n h) (omega arith))
    (λ n h rec p. rw (large n h, get_or-append (decimal (n / 10)) ((48 + n % 10) ∷ []) 0 0 (some-digit (n / 10))) (rec (omega arith)))

-- one digit more
pub digit-more : (n d : ℕ) → 0 < n → d < 10 → decimal (n * 10 + d) ≡ decimal n ++ ((48 + d) ∷ [])
digit-more n d p h =
    let q : (n * 10 + d) / 10 ≡ n = omega arith in
    let r : (n * 10 + d) % 10 ≡ d = omega arith in
    large (n * 10 + d) (omega arith) ∙ rw (q, r)

is_digit_lem : (d : ℕ) → d < 10 → is_digit (48 + d) ≡ true
is_digit_lem d h = rw (le-leb 48 (48 + d) (omega arith), le-leb (48 + d) 57 (omega arith))

digits-one : (d : ℕ) (rest : List ℕ) → d < 10 → digits ((48 + d) ∷ rest) ≡ (48 + d) ∷ digits rest
digits-one d rest h = rw (digits, is_digit_lem d h)

-- what is printed is read as digits
pub digits_decimal : (n : ℕ) (rest : List ℕ) → digits (decimal n ++ rest) ≡ decimal n ++ digits rest
digits_decimal = by-tenths (λ n. (rest : List ℕ) → digits (decimal n ++ rest) ≡ decimal n ++ digits rest)
    (λ n h rest. rw (small n h) (digits-one n rest h))
    (λ n h rec rest.
    rw (large n h, append_assoc (decimal (n / 10)) ((48 + n % 10) ∷ []) rest, append_assoc (decimal (n / 10)) ((48 + n % 10) ∷ []) (digits rest))
    (rec ((48 + n % 10) ∷ rest) ∙ ap (λ (l : List ℕ). decimal (n / 10) ++ l) (digits-one (n % 10) rest (omega arith))))

value-append : (v : ℕ) (xs ys : List ℕ) → value_of v (xs ++ ys) ≡ value_of (value_of v xs) ys
value-append v [] ys = refl
value-append v (x ∷ xs) ys = value-append (v * 10 + (x - 48)) xs ys

pub value-decimal : DecimalValue
value-decimal = by-tenths (λ n. value_of 0 (decimal n) ≡ n) (λ n h. rw (small n h) (omega arith))
    (λ n h rec. rw (large n h, value-append 0 (decimal (n / 10)) ((48 + n % 10) ∷ []), rec) (omega arith))

-- digits that follow a number are printed after it
pub decimal-more : (n : ℕ) (l : List ℕ) → 0 < n → decimal (value_of n (digits l)) ≡ decimal n ++ digits l
decimal-more n [] p = sym (append-nil (decimal n))
decimal-more n (b ∷ bs) p = go (is_digit b) refl (decimal-more (n * 10 + (b - 48)) bs)
  where
    go : (t : Bool) → is_digit b ≡ t → (0 < n * 10 + (b - 48) → decimal (value_of (n * 10 + (b - 48)) (digits bs)) ≡ decimal (n * 10 + (b - 48)) ++ digits bs)
        → decimal (value_of n (digits (b ∷ bs))) ≡ decimal n ++ digits (b ∷ bs)
    go false e rec = rw (none-front (b ∷ bs) e) (sym (append-nil (decimal n)))
    go true e rec =
        let w = in-range 48 57 b e in
        let z : 48 + (b - 48) ≡ b = omega arith in
        rw (some-front (b ∷ bs) e)
        (rec (omega arith)
        ∙ (ap (λ (l : List ℕ). l ++ digits bs) (digit-more n (b - 48) p (omega arith))
        ∙ rw (z, append_assoc (decimal n) (b ∷ []) (digits bs))))

-- digits of which only a lone one is 0 are their value, printed
pub printed-first : (b : ℕ) (l : List ℕ) → is_digit b ≡ true → (b ≡ 48 → digits l ≡ []) → decimal (value_of (0 * 10 + (b - 48)) (digits l)) ≡ b ∷ digits l
printed-first b l d alone = go (eqb b 48) refl
  where
    go : (t : Bool) → eqb b 48 ≡ t → decimal (value_of (0 * 10 + (b - 48)) (digits l)) ≡ b ∷ digits l
    go true q = let z = eqb-true b 48 q in rw (alone z, z) (small 0 (omega arith))
    go false q =
        let w = in-range 48 57 b d in
        let ne = eqb-false b 48 q in
        let z : 48 + (0 * 10 + (b - 48)) ≡ b = omega arith in
        decimal-more (0 * 10 + (b - 48)) l (omega arith)
        ∙ ap (λ (ds : List ℕ). ds ++ digits l) (small (0 * 10 + (b - 48)) (omega arith) ∙ ap (λ (c : ℕ). c ∷ []) z)

pub empty : (l : List ℕ) → length l ≡ 0 → l ≡ []
empty [] e = refl
empty (x ∷ xs) e = absurd (omega arith)

-- a list of digits is all its digits
all_rest : (b : ℕ) (bs : List ℕ) → AllDigits (b ∷ bs) → AllDigits bs
all_rest b bs h i l = h (suc i) (omega arith)

digits-all : (l : List ℕ) → AllDigits l → digits l ≡ l
digits-all [] h = refl
digits-all (b ∷ bs) h = some-front (b ∷ bs) (h 0 (omega arith)) ∙ ap (λ (ds : List ℕ). b ∷ ds) (digits-all bs (all_rest b bs h))

all_more : (b : ℕ) (bs : List ℕ) → is_digit b ≡ true → AllDigits bs → (i : ℕ) → i < length (b ∷ bs) → is_digit (get_or (b ∷ bs) i 0) ≡ true
all_more b bs d h zero l = d
all_more b bs d h (suc i) l = h i (omega arith)

all_digits : (l : List ℕ) → AllDigits (digits l)
all_digits [] = λ i h. absurd (not-suc-le-zero h)
all_digits (b ∷ bs) = go (is_digit b) refl (all_digits bs)
  where
    go : (t : Bool) → is_digit b ≡ t → AllDigits (digits bs) → AllDigits (digits (b ∷ bs))
    go true e rec = rw (some-front (b ∷ bs) e) (all_more b (digits bs) e rec)
    go false e rec = rw (none-front (b ∷ bs) e) (λ i h. absurd (not-suc-le-zero h))

pub decimal-digits : DecimalDigits
decimal-digits n =
    let e : digits (decimal n) ≡ decimal n = ap digits (sym (append-nil (decimal n))) ∙ (digits_decimal n [] ∙ append-nil (decimal n)) in
    rw e at (all_digits (decimal n))

pub decimal-only : DecimalOnly
decimal-only n [] p = absurd (not-suc-le-zero p.some)
decimal-only n (b ∷ bs) p =
    let d = digits-all bs (all_rest b bs p.digit) in
    let f : decimal (value_of (0 * 10 + (b - 48)) (digits bs)) ≡ b ∷ digits bs = printed-first b bs (p.digit 0 (omega arith)) (λ z. d ∙ empty bs (omega (arith, p.first z))) in
    sym (sym (ap decimal p.value) ∙ (rw d at f))

pub decimal-printed : DecimalPrinted
decimal-printed n = record { digit = decimal-digits n; some = some-digit n; value = value-decimal n; first = lone n }
  where
    lone : (n : ℕ) → get_or (decimal n) 0 0 ≡ 48 → length (decimal n) ≡ 1
    lone zero e = ap length (small 0 (omega arith))
    lone (suc n) e = absurd (omega (arith, first-digit (suc n) (omega arith)))
