-- `columns::least_price` meets its contract: a loop comes to the least of so many.
use Rattle.std.proofs.Common.{ap, ◌≡◌, ◌∙◌, ◌+◌, ◌-◌, length-take, length-drop, drop, refl, arith}
use Rattle.std.proofs.lemmas.List.{get_or-take, get_or-drop}
use Rattle.duality.specs.Lists.{cells}
use Rattle.std.specs.Prelude.{min}
use Rattle.supply.proofs.Reading.{least-next}
use Rattle.supply.proofs.columns.least_price.Goals as goal

pub loop-price-init : goal.loop-price-init
loop-price-init c = refl

pub loop-price-preserved : goal.loop-price-preserved
loop-price-preserved c =
    let a = c.args in
    let ps = a.prices.now in
    let j = c.loop-price.price-index in
    let n = a.from + a.places - a.from in
    let size = length-take n (drop a.from ps) in
    let read = get_or-take n (drop a.from ps) j 0 (omega arith) ∙ get_or-drop a.from ps j 0 in
    least-next (cells ps a.from) j _ _ (λ i. cells ps (a.from + i)) c.loop-price.invariant (c.min-least.ensures ∙ ap (min c.loop-price.least) read)

pub returns : goal.returns
returns c =
    let a = c.args in
    let n = a.from + a.places - a.from in
    let size = length-take n (drop a.from a.prices.now) in
    let rest = length-drop a.from a.prices.now in
    let all : c.loop-price.price-index ≡ a.places = omega arith in
    rw (← all) c.loop-price.invariant
