-- `replay_fills::shaped` meets its contract: what the call left is printed whole.
use native.Mathlib.Omega.{arith}
use mathlib.Core.List.{map}
use lib.ListN.{length}
use Rattle.buffers.specs.Shapes.{shape_step, shape_raw, frames_in, cells_in}
use Rattle.replay_box.specs.Frames.{frames}
use Rattle.replay_fills.proofs.Buffers.{shown}
use Rattle.replay_fills.proofs.shaped.Goals as goal

pub returns : goal.returns
returns g c =
    let a = c.args in
    let n = length a.cells.now in
    shown _ c.requires.short (shape_step (frames a.bytes.now) a.shape) (λ b. map g.C.Cell-1.scaled (shape_raw (frames a.bytes.now) a.shape b)) (frames_in a.shape n) (cells_in a.shape n) (omega (arith, c.requires.few, c.fill-filled.auto.out)) c.fill-filled.ensures c.put_cells.ensures
