-- What a writer over a lent list puts. Assumes nothing.
use Rattle.std.specs.Prelude.{◌≡◌, ℕ, ◌+◌, ◌-◌, ◌^◌, ◌≤◌, min, List, length}
use Rattle.std.proofs.lemmas.List.Edits.{sets}
use Rattle.text.specs.declared.print.Out.{Out}

-- the last position of a writer
abbrev pub last_position : ℕ
last_position = 2 ^ 64 - 1

-- `bytes` were put, one after the other, into the same list
pub record Puts (old new : Out) (bytes : List ℕ) : Type 0 where
  pub same_reference : new.bytes.ghost_name ≡ old.bytes.ghost_name
  pub wrote : length old.bytes.now ≤ last_position → new.bytes.now ≡ sets old.bytes.now old.at bytes
  pub moved : new.at ≡ min (old.at + length bytes) last_position
