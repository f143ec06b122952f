-- `replay_banks::bank` meets its contract: the part that the call left is printed whole.
use mathlib.Core.Path.{◌≡◌, sym, ap, ◌∙◌}
use Prim.Native.Nat.{ℕ, min, ◌≤◌}
use native.Mathlib.Omega.{arith}
use Rattle.replay_banks.specs.Record.{room_at, bank_text}
use Rattle.replay_banks.proofs.Shown.{lent_length, back_fits, back-length, shown}
use Rattle.replay_banks.proofs.bank.Goals as goal

pub returns : goal.returns
unfolding bank_text
returns c =
    let l = c.args.l.now in
    let few : c.room-n.result ≤ 4096 = omega (arith, c.room-n.ensures) in
    let e : c.room-n.result ≡ room_at l = c.room-n.ensures ∙ ap (λ (x : ℕ). min x 4096) c.wide_at.ensures in
    rw (sym e)
    (shown few c.blank-cells.ensures c.write_rest-word.new.out c.write_rest-word.auto.out (rw (lent_length few c.blank-cells.ensures) at c.write_rest-word.ensures) c.put_cells.ensures)

pub slice_bounds-write_rest-end : goal.slice_bounds-write_rest-end
slice_bounds-write_rest-end c = sym (lent_length (omega (arith, c.room-n.ensures)) c.blank-cells.ensures)

pub slice_bounds-cells-end-2 : goal.slice_bounds-cells-end-2
slice_bounds-cells-end-2 c =
    back_fits (omega (arith, c.room-n.ensures)) c.blank-cells.ensures c.write_rest-word.new.out c.write_rest-word.auto.out

pub slice_bounds-put_cells-end : goal.slice_bounds-put_cells-end
slice_bounds-put_cells-end c =
    sym (back-length (omega (arith, c.room-n.ensures)) c.blank-cells.ensures c.write_rest-word.new.out c.write_rest-word.auto.out)
