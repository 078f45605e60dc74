-- `print::put_number` meets its contract. It calls itself at a tenth of the number, so the number falls. Assumes nothing.
use Rattle.std.proofs.Common.{◌≡◌, ℕ, ◌/◌, ◌%◌, [], ◌∷◌, ◌++◌, sym, ◌∙◌, ap, arith}
use Rattle.text.specs.Print.{decimal}
use Rattle.text.specs.Out.{Puts}
use Rattle.text.proofs.Decimals.{small, large, most}
use Rattle.text.proofs.Outs.{puts_then, puts_as}
use Rattle.text.proofs.print.Out.+put_number.Goals as goal
use Rattle.text.proofs.print.Out.+put_number.Goals.{then-n-ge10, else-n-ge10}

pub returns : goal.returns
returns t c =
    let n = c.args.n in
    let p : Puts c.args.self.now c.put.new.self (decimal n) = elim c.if-n-ge10.branch [
      | then-n-ge10 w ↦
          let e = ap (λ (d : ℕ). decimal (n / 10) ++ (d ∷ [])) c.digit.ensures ∙ sym (large n (omega arith)) in
          puts_as e (puts_then w.put_number.ensures.put (rw w.self-is at c.put.ensures))
      | else-n-ge10 w ↦
          let m : n % 10 ≡ n = omega arith in
          let e = ap (λ (d : ℕ). d ∷ []) (rw m at c.digit.ensures) ∙ sym (small n (omega arith)) in
          puts_as e (rw w.self-is at c.put.ensures)
    ] in
    record { put = p; few = omega (arith, p.moved, most n (omega arith)) }
