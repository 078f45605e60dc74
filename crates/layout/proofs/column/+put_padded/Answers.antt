-- `column::put_padded` meets its contract. It calls itself with a column less.
use Rattle.std.proofs.Common.{◌≡◌, ℕ, ◌-◌, ◌/◌, ◌%◌, [], ◌∷◌, ◌++◌, ◌∙◌, ap, arith, replicate}
use Rattle.text.specs.Print.{decimal}
use Rattle.text.proofs.Outs.{puts_then, puts_as}
use Rattle.layout.specs.Limits.{blank}
use Rattle.layout.specs.Page.{padded}
use Rattle.layout.proofs.Columns.{padded-one, padded-more}
use Rattle.layout.proofs.column.+put_padded.Goals as goal
use Rattle.layout.proofs.column.+put_padded.Goals.{then-n-lt10, else-n-lt10}

pub returns : goal.returns
returns t c =
    let w = c.args.width in
    let n = c.args.n in
    elim c.if-n-lt10.branch [
      | then-n-lt10 b ↦
          let m : n % 10 ≡ n = omega arith in
          let e = ap (λ (d : ℕ). replicate (w - 1) blank ++ (d ∷ [])) (rw m at c.digit.ensures) ∙ padded-one w n (omega arith) in
          puts_as e (puts_then b.put_blanks.ensures (rw b.out-is at c.put.ensures))
      | else-n-lt10 b ↦
          let e = ap (λ (d : ℕ). padded (w - 1) (decimal (n / 10)) ++ (d ∷ [])) c.digit.ensures ∙ padded-more w n (omega arith) in
          puts_as e (puts_then b.put_padded.ensures (rw b.out-is at c.put.ensures))
    ]
