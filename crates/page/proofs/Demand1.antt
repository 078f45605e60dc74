-- The order of the checks, in numbers.
use mathlib.Core.Path.{refl}
use Rattle.page.specs.Demand1.{PageOrders}

pub page_orders : PageOrders
page_orders = record { writes = λ b room. refl; reads = λ s l. refl }
