-- (c) The share.
use native.Mathlib.Omega.{arith}
use Rattle.duality.specs.Share.{Share}
use Rattle.duality.proofs.WeakDuality.{weak-duality}
use Rattle.duality.proofs.Tightness.{tightness}

pub share : Share
share n m w c d matching price gain other p t covers o =
    omega (arith, weak-duality n m w c other price gain o covers, tightness n m w d matching price gain p t)
