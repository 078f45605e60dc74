-- Writing a page: "Answers when writing: 8 if the lent page is too short, after 13. Writing returns the bytes written".
use Rattle.std.specs.Prelude.{◌≡◌, not, List, [], ◌∷◌, ◌++◌, ℕ, ◌<◌, length, drop, ltb, Err, Ok, Result}
use Rattle.refusals.specs.declared.Refusal.{Refusal}
use Rattle.refusals.specs.declared.Refusal.TheVariants.{Short, Spoilt}
use Rattle.refusals.specs.declared.Told.{Told}
use Rattle.refusals.specs.Told.{served, refused}
use Rattle.refusals.specs.Demand1.{Check, check_for, first_of, Verdict}
use Rattle.supply.specs.declared.record.Board.{Board}
use Rattle.supply.specs.Sound.{Sound}
use Rattle.supply.specs.SoundTest.{sound_test}
use Rattle.page.specs.Rows.{board_page}

-- The answer, and the lent page after the call
pub record WriteOutcome : Type 0 where
  pub answer : Result ℕ Refusal
  pub page : List ℕ

abbrev pub wrote : Result ℕ Refusal → List ℕ → WriteOutcome
wrote a page = record { answer = a; page = page }

-- "a list to be written has too few cells"
pub data WriteMet (b : Board) (page : List ℕ) : Refusal → Type 0 where
  spoilt : (Sound b → ⊥) → WriteMet b page Spoilt
  short : length page < length (board_page b) → WriteMet b page Short

-- The checks, by the length of the lent page
abbrev pub write_checks : Board → ℕ → List Check
write_checks b room = check_for Spoilt (not (sound_test b)) ∷ (check_for Short (ltb room (length (board_page b))) ∷ [])

-- The board's page, and "further cells keep what they held"
abbrev pub page_over : Board → List ℕ → List ℕ
page_over b page = board_page b ++ drop (length (board_page b)) page

unfoldable pub write_by : Board → List ℕ → Verdict → WriteOutcome
write_by b page (Ok tt) = wrote (Ok (length (board_page b))) (page_over b page)
write_by b page (Err r) = wrote (Err r) page

unfoldable pub write_page_of : Board → List ℕ → WriteOutcome
write_page_of b page = write_by b page (first_of (write_checks b (length page)))

-- What is told
abbrev pub written_told : Result ℕ Refusal → Told
written_told (Ok n) = served n
written_told (Err r) = refused r

-- Writing leaves the page after, and tells t
pub record WriteAnswers (b : Board) (before after : List ℕ) (t : Told) : Type 0 where
  pub page : (write_page_of b before).page ≡ after
  pub tells : written_told (write_page_of b before).answer ≡ t
