-- Cells and stores of a list of q-ths of a penny, and plain numbers as such a list.
use mathlib.Core.Path.{◌≡◌, ap, ◌∙◌}
use mathlib.Core.List.{List}
use Rattle.std.proofs.lemmas.List.{map-set}
use Prim.Native.Nat.{ℕ, ◌<◌}
use lib.ListN.{length, get_or, set, get_or-map}
use lib.Seq.{get_or-set_same}
use Rattle.board.specs.declared.units.Scaled.{Scaled}
use Rattle.board.specs.declared.record.Holder.{Holder}
use Rattle.board.specs.declared.record.Holder.TheVariants.{Held, Free}
use Rattle.board.specs.Cells.{scaled, scaled_at}
use Rattle.bidding.specs.Book.{units}
use Rattle.bidding.specs.Slides.{gains_to}

pub scaled-same : (ys : List Scaled) (k v : ℕ) → k < length ys → scaled_at (set ys k (scaled v)) k ≡ v
scaled-same ys k v l = ap (λ (s : Scaled). s.0) (get_or-set_same ys k (scaled v) (scaled 0) l)

-- ---- Plain numbers
pub units-at : (ys : List ℕ) (k : ℕ) → scaled_at (units ys) k ≡ get_or ys k 0
units-at ys k = ap (λ (s : Scaled). s.0) (get_or-map scaled ys k 0)

pub units-set : (ys : List ℕ) (k v : ℕ) → units (set ys k v) ≡ set (units ys) k (scaled v)
units-set ys k v = map-set scaled ys k v

-- Gains after a hand over
pub units-gains : (gains : List ℕ) (i u : ℕ) (h : Holder) → units (gains_to 0 gains i u h) ≡ gains_to (scaled 0) (units gains) i (scaled u) h
units-gains gains i u Free = units-set gains i u
units-gains gains i u (Held x) = units-set (set gains i u) x 0 ∙ ap (λ (l : List Scaled). set l x (scaled 0)) (units-set gains i u)
