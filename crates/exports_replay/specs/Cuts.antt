-- Where a line ends and the next begins. Assumes nothing.
use Rattle.std.specs.Prelude.{ℕ, ◌-◌, ◌<◌, ◌≡◌, List, ◌∷◌, length, take, drop}
use Rattle.exports_replay.specs.Lines.{lines_of}
use Rattle.exports_replay.specs.declared.cut.Cut.{Cut}

-- the first line of a script, which is its first bytes, and the others, which are its last
pub record Cuts (script : List ℕ) (r : Cut) : Type 0 where
  pub lines : lines_of script ≡ r.line.now ∷ lines_of r.rest.now
  pub onward : length r.rest.now < length script
  pub front : r.line.now ≡ take (length r.line.now) script
  pub back : r.rest.now ≡ drop (length script - length r.rest.now) script
