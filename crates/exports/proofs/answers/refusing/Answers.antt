-- `answers::refusing` meets its contract.
use Rattle.exports.proofs.answers.refusing.Goals as goal

pub returns : goal.returns
returns c = rw (c.number.ensures, c.place.ensures)
