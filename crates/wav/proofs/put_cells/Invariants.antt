-- `wav::put_cells` meets its contract: what is left to write is what there was.
use mathlib.Core.Path.{◌≡◌}
use Prim.Native.Nat.{◌*◌}
use lib.ListN.{drop}
use lib.Seq.{sets}
use Rattle.wav.specs.Wav.{cell_bytes, fitting}
use Rattle.wav.proofs.put_cells.Given as goal

abbrev pub invariant-loop-i : goal.invariant-loop-i
invariant-loop-i l =
    let f = fitting l.cells l.initial.out in
    sets l.out (2 * l.i) (cell_bytes (drop l.i f)) ≡ sets l.initial.out 0 (cell_bytes f)
