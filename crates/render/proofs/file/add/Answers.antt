-- `render::file::add` meets its contract: what stays held back leaves room for all the cells, which then stand behind it.
use Rattle.std.proofs.Common.{◌≡◌, ◌-◌, ◌*◌, ◌≤◌, length, take, drop, sym, arith, length-drop, length-take, length-take-le}
use Rattle.render.proofs.Holding.{few-held, got-all, behind}
use Rattle.render.proofs.file.add.Goals as goal

pub returns : goal.returns
returns c =
    let a = c.args in
    let g = c.with_room-g.ensures in
    let at = c.with_room-g.result.held in
    let space = take (65536 - at) (drop at a.kept.now) in
    let few : at ≤ 57344 = rw g.held (few-held a.f.held) in
    let room : 2 * length a.cells.now ≤ length space = simp (length-take, length-drop) (omega arith) in
    let got = got-all space a.cells.now room c.put_cells-got.ensures in
    let n : length (take at a.kept.now) ≡ at = length-take-le at a.kept.now (omega arith) in
    record {
      bytes = rw (sym g.held) (behind space a.cells.now room (take at a.kept.now) _ n c.put_cells-got.ensures);
      file =
          record {
            held = rw (sym g.held, got);
            clock = rw (c.more_frames.ensures, g.clock);
            file = g.file;
            failed = g.failed;
          };
    }
