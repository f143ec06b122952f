-- The keys of the box's voices, searched. Assumes nothing.
-- there are as many keys as voices
use mathlib.Core.Path.{◌≡◌, sym, ◌∙◌}
use lib.ListN.{length, length-map}
use Rattle.allocate.proofs.Keyed.{ranks-length, oldest-keyed}
use Rattle.allocate.proofs.allocate_oldest.Goals.{After-keys_of-keys}
use Rattle.allocate.proofs.allocate_oldest.Goals as goal

sixteen : (c : After-keys_of-keys) → length c.keys_of-keys.result ≡ 16
sixteen c = rw (c.keys_of-keys.ensures, length-map) (ranks-length _ _ ∙ c.requires.inside.full)

pub returns : goal.returns
returns c =
    rw (c.bound-bound.ensures, c.keys_of-keys.ensures) at c.lowest.ensures ∙ oldest-keyed c.args.p c.args.priority c.requires

pub slice_bounds-lowest-end : goal.slice_bounds-lowest-end
slice_bounds-lowest-end c = sym (sixteen (goal.at.slice_bounds-lowest-end c).After-keys_of-keys)
