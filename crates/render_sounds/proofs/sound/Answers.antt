-- `render_sounds::sound` meets its contract: the kind of frame and their number are the definition's, and few enough for the buffer.
use borrow.Author.Rules.{rules}
use mathlib.Core.Path.{refl, sym, ap, ◌∙◌}
use Prim.Native.Nat.{◌≤◌, ◌*◌}
use native.Mathlib.Omega.{arith}
use lib.ListN.{length}
use Rattle.hex_digits.specs.Hex.{byte_at}
use Rattle.render_sounds.specs.Sounds.{is_stereo, shape_of, sound_of}
use Rattle.render_sounds.proofs.Laws.{few-frames}
use Rattle.render_sounds.proofs.Pairs.{sounded-as}
use Rattle.render_sounds.proofs.sound.Goals as goal

pub overflow_mul-cells : goal.overflow_mul-cells
overflow_mul-cells c =
    let few : c.frames-cells.result ≤ 2048 = omega (arith, c.frames-cells.ensures, few-frames c.args.line.now) in record { fits = omega arith }

pub slice_bounds-fill-end : goal.slice_bounds-fill-end
slice_bounds-fill-end c =
    let few : c.frames-cells.result ≤ 2048 = omega (arith, c.frames-cells.ensures, few-frames c.args.line.now) in omega arith

pub returns : goal.returns
unfolding sound_of
returns c =
    let few : c.frames-cells.result ≤ 2048 = omega (arith, c.frames-cells.ensures, few-frames c.args.line.now) in
    let room : 2 * c.frames-cells.result ≤ length c.args.out.now = search rules in
    rw (sym c.held.ensures, c.in-Some.is, sym c.frames-cells.ensures, sym c.lent.ensures, sym c.copied-b.ensures)
    (sounded-as (is_stereo (byte_at c.args.line.now 0)) c.frames-cells.result c.lent.result.now c.args.out.now room
    (c.shape_of.ensures ∙ ap shape_of c.byte_at.ensures)
    c.fill.ensures)

pub returns-in_default : goal.returns-in_default
unfolding sound_of
returns-in_default c = rw (sym c.held.ensures, c.in_default.is) (record { count = refl; content = refl })
