-- The voice that its key gives and the start that is given. Assumes nothing.
use Prim.Native.Nat.{◌<◌}
use mathlib.Core.Path.{◌≡◌, sym, ap, ◌∙◌}
use mathlib.Core.Bool.{true}
use native.Mathlib.Omega.{arith}
use lib.ListN.{length, length-map}
use Rattle.allocate.proofs.Keyed.{ranks-length}
use Rattle.play.proofs.Placing.{placed-stored}
use Rattle.requests.proofs.Presents.{made-stored, made_kept}
use Rattle.requests.proofs.play_request.Goals.{After-keys_of-keys, In-Ok}
use Rattle.requests.proofs.play_request.Lts as lts
use Rattle.requests.proofs.play_request.Reads as reads
use Rattle.requests.proofs.play_request.Tie as tie
use Rattle.requests.proofs.play_request.Goals as goal
use Rattle.error.specs.Told.{told}

abbrev At-After-keys_of-keys : Type 0
At-After-keys_of-keys = lts.After-keys_of tie.the-claims reads.Pre reads.Post

-- there are as many keys as voices
sixteen : (c : At-After-keys_of-keys) → length c.keys_of-keys.result ≡ 16
sixteen c = rw (c.keys_of-keys.ensures, length-map) (ranks-length _ _ ∙ c.requires.inside.full)

-- the voice that is given is one of the sixteen
below : (c : In-Ok) → c.in-Ok.i < 16
below c =
    let g = placed-stored true c.args.p _ _ c.requires _ c.keys_of-keys.ensures _ _ (sym c.place.ensures.same ∙ ap told c.in-Ok.is) in
    omega (arith, g.place, c.requires.inside.few)

pub returns-in-Err : goal.returns-in-Err
returns-in-Err c =
    made_kept c.args.p _ _ c.requires _ c.keys_of-keys.ensures c.in-Err.e (sym c.place.ensures.same ∙ ap told c.in-Err.is)

pub returns-in-Ok : goal.returns-in-Ok
returns-in-Ok c =
    made-stored c.args.p _ _ c.requires _ c.keys_of-keys.ensures _ _ c.renewed-marks.result (sym c.place.ensures.same ∙ ap told c.in-Ok.is)
    (rw c.in-Ok.is at c.place.ensures.valid) c.renewed-marks.ensures

pub slice_bounds-place-end : goal.slice_bounds-place-end
slice_bounds-place-end c = sym (sixteen (goal.at.slice_bounds-place-end c).After-keys_of-keys.before)

pub place-requires : goal.place-requires
place-requires c = c.requires.inside.bank

pub offset_bounds-mixer-i : goal.offset_bounds-mixer-i
offset_bounds-mixer-i c = omega (arith, below c)

pub bounds-mixer-i : goal.bounds-mixer-i
bounds-mixer-i c = below c

pub renewed-marks-requires : goal.renewed-marks-requires
renewed-marks-requires c = below c
