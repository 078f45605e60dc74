-- Numbers and lines at the edge of the form, byte by byte and without the names of the limits. Assumes nothing.
use Rattle.std.specs.Prelude.{◌≡◌, None, [], ◌∷◌}
use Rattle.text.specs.Number.{number, field_at}
use Rattle.text.specs.Line.{all, bad_line, line_with, line_at}

pub record Boundary : Type 0 where
  -- "Numbers have 1 to 7 decimal digits": none, seven, eight
  pub none : field_at (10 ∷ []) 0 ≡ None
  pub seven : field_at (49 ∷ 50 ∷ 51 ∷ 52 ∷ 53 ∷ 54 ∷ 55 ∷ 10 ∷ []) 0 ≡ number 1234567 7
  pub eight : field_at (49 ∷ 50 ∷ 51 ∷ 52 ∷ 53 ∷ 54 ∷ 55 ∷ 56 ∷ 10 ∷ []) 0 ≡ None
  -- "no leading zero but in 0 itself": `0`, `01`
  pub zero : field_at (48 ∷ 10 ∷ []) 0 ≡ number 0 1
  pub leading : field_at (48 ∷ 49 ∷ 10 ∷ []) 0 ≡ None
  -- "a last line without byte 10 is 14": `W`, a tab and `3`, with the byte 10 and without it
  pub closed : line_at (87 ∷ 9 ∷ 51 ∷ 10 ∷ []) 0 ≡ line_with 87 (all (3 ∷ []) 4)
  pub unclosed : line_at (87 ∷ 9 ∷ 51 ∷ []) 0 ≡ bad_line
