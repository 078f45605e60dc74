-- How often an edge can be bid on: the steps of its item's price.
use Rattle.std.specs.Prelude.{ℕ, ◌-◌, ◌*◌, ◌/◌, ◌<◌, min}

-- "For an entry of worth w and a kettle of price Y, the utility is q × w - Y"
abbrev pub utility : ℕ → ℕ → ℕ → ℕ
utility q w y = q * w - y

-- "The entry is open if the utility is greater than p × w; equality is not open". (A difference below 0 counts as 0, and 0 is not greater.)
abbrev pub Open : ℕ → ℕ → ℕ → ℕ → Type 0
Open p q w y = p * w < utility q w y

-- "the whole part of (q - 1)/p"
abbrev pub most : ℕ → ℕ → ℕ
most p q = (q - 1) / p

-- How many steps of p × w a price y holds, but no more than the most
abbrev pub steps : ℕ → ℕ → ℕ → ℕ → ℕ
steps p q w y = min (most p q) (y / (p * w))
