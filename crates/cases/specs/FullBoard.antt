-- The soundness test computes: a full board of 64 items, 128 bidders and 8,192 edges is sound, and with one cell changed it is not.
use Rattle.std.specs.Prelude.{◌≡◌, true, false, List, [], ◌∷◌, ℕ, zero, suc, ◌+◌, ◌*◌, replicate, set}
use Rattle.supply.specs.declared.record.Board.{Board}
use Rattle.board.specs.Limits.{max_items, max_bidders}
use Rattle.board.specs.Cells.{scaled}
use Rattle.supply.specs.SoundTest.{sound_test}

-- The numbers from i on, n of them
unfoldable pub count : ℕ → ℕ → List ℕ
count i zero = []
count i (suc n) = i ∷ count (i + 1) n

-- Slack 1/2. Bidder i holds item i at price 3, all edges weigh 1, but the last bidder's edge at the last item weighs w.
unfoldable pub full : ℕ → Board
full w =
    record {
      items = record { count = max_items; places = replicate max_items 1 };
      market = record { items = max_items; slack = record { p = 1; q = 2 }; arrived = max_bidders; withdrawn = replicate max_items 0 };
      state = record { price = replicate max_items (scaled 3); holder = count 1 max_items; gain = replicate max_bidders (scaled 0) };
      weights = set (replicate (max_bidders * max_items) 1) 8191 w;
    }

abbrev pub FullSound : Type 0
FullSound = sound_test (full 3) ≡ true

-- (q - p) × 4 is above the price of 3
abbrev pub FullUnsound : Type 0
FullUnsound = sound_test (full 4) ≡ false
