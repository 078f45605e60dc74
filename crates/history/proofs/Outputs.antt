-- Laws of the lines of an output.
use mathlib.Core.Path.{◌≡◌, refl, sym, ◌∙◌, ap}
use mathlib.Core.Bool.{Bool}
use mathlib.Core.List.{List, [], ◌∷◌, ◌++◌}
use Prim.Native.Nat.{ℕ, zero, suc, ◌+◌, ◌<◌}
use native.Mathlib.Numerals.{add-one}
use native.Mathlib.Omega.{arith}
use Rattle.text.specs.Print.{line_of}
use Rattle.history.specs.Output.{bidder_lines, item_line, item_lines}

-- one line more
pub bidder-more : (matching gain : ℕ → ℕ) (i : ℕ) → bidder_lines matching gain i ++ line_of 80 ((i + 1) ∷ matching i ∷ gain i ∷ []) ≡ bidder_lines matching gain (i + 1)
unfolding bidder_lines
bidder-more matching gain i = ap (λ (k : ℕ). bidder_lines matching gain k) (sym (add-one i))

pub item-more : (withdrawn : ℕ → Bool) (price : ℕ → ℕ) (k : ℕ) → item_lines withdrawn price k ++ item_line (withdrawn k) (k + 1) (price k) ≡ item_lines withdrawn price (k + 1)
unfolding item_lines
item-more withdrawn price k = ap (λ (j : ℕ). item_lines withdrawn price j) (sym (add-one k))

-- no line
pub no-bidders : (matching gain : ℕ → ℕ) → [] ≡ bidder_lines matching gain 0
unfolding bidder_lines
no-bidders matching gain = refl

pub no_items : (withdrawn : ℕ → Bool) (price : ℕ → ℕ) → [] ≡ item_lines withdrawn price 0
unfolding item_lines
no_items withdrawn price = refl

-- the same figures have the same lines
pub bidders-same : (n : ℕ) (f g x y : ℕ → ℕ) → ((i : ℕ) → i < n → f i ≡ x i) → ((i : ℕ) → i < n → g i ≡ y i) → bidder_lines f g n ≡ bidder_lines x y n
unfolding bidder_lines
bidders-same zero f g x y e h = refl
bidders-same (suc n) f g x y e h =
    ap (λ (l : List ℕ). l ++ line_of 80 ((n + 1) ∷ f n ∷ g n ∷ [])) (bidders-same n f g x y (λ i l. e i (omega arith)) (λ i l. h i (omega arith)))
    ∙ (ap (λ (v : ℕ). bidder_lines x y n ++ line_of 80 ((n + 1) ∷ v ∷ g n ∷ [])) (e n (omega arith))
    ∙ ap (λ (v : ℕ). bidder_lines x y n ++ line_of 80 ((n + 1) ∷ x n ∷ v ∷ [])) (h n (omega arith)))

pub items-same : (n : ℕ) (w : ℕ → Bool) (f x : ℕ → ℕ) → ((k : ℕ) → k < n → f k ≡ x k) → item_lines w f n ≡ item_lines w x n
unfolding item_lines
items-same zero w f x e = refl
items-same (suc n) w f x e =
    ap (λ (l : List ℕ). l ++ item_line (w n) (n + 1) (f n)) (items-same n w f x (λ k l. e k (omega arith)))
    ∙ ap (λ (v : ℕ). item_lines w x n ++ item_line (w n) (n + 1) v) (e n (omega arith))

pub flags-same : (n : ℕ) (w v : ℕ → Bool) (f : ℕ → ℕ) → ((k : ℕ) → k < n → w k ≡ v k) → item_lines w f n ≡ item_lines v f n
unfolding item_lines
flags-same zero w v f e = refl
flags-same (suc n) w v f e =
    ap (λ (l : List ℕ). l ++ item_line (w n) (n + 1) (f n)) (flags-same n w v f (λ k l. e k (omega arith)))
    ∙ ap (λ (x : Bool). item_lines v f n ++ item_line x (n + 1) (f n)) (e n (omega arith))
