-- The numbers and lines at the edge of the form, by computation. Assumes nothing.
use mathlib.Core.Path.{refl}
use Rattle.text.specs.Number.{field_at}
use Rattle.text.specs.Line.{fields_at, line_at}
use Rattle.text.specs.Boundary.{Boundary}

pub boundary : Boundary
unfolding field_at fields_at line_at
boundary = record {
  none = refl;
  seven = refl;
  eight = refl;
  zero = refl;
  leading = refl;
  closed = refl;
  unclosed = refl;
}
