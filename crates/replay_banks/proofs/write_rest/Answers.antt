-- `replay_banks::write_rest` meets its contract: the cells lent are the bytes that were stored.
use mathlib.Core.Path.{◌≡◌, sym, ap, ◌∙◌}
use Prim.Native.Nat.{ℕ, ◌≤◌}
use native.Mathlib.Omega.{arith}
use lib.ListN.{length, take, length-replicate}
use lib.Seq.{length-sets, length-take-le}
use Rattle.hex_digits.specs.Hex.{bytes_from}
use Rattle.hex_digits.proofs.Front.{front_bytes}
use Rattle.replay_banks.specs.Record.{rest_at}
use Rattle.replay_banks.proofs.write_rest.Goals as goal

pub slice_bounds-rest-end : goal.slice_bounds-rest-end
slice_bounds-rest-end c =
    let full : length c.bytes_from.new.cells ≡ 4096 = ap length c.bytes_from.ensures ∙ simp (length-sets, length-replicate) in
    rw full (omega (arith, c.rest_len-n.ensures))

pub slice_bounds-write-end : goal.slice_bounds-write-end
slice_bounds-write-end c =
    let full : length c.bytes_from.new.cells ≡ 4096 = ap length c.bytes_from.ensures ∙ simp (length-sets, length-replicate) in
    sym (length-take-le _ _ (rw full (omega (arith, c.rest_len-n.ensures))))

pub returns : goal.returns
returns c =
    let l = c.args.l.now in
    let n = c.rest_len-n.result in
    let few : n ≤ 4083 = omega (arith, c.rest_len-n.ensures) in
    let e : take n c.bytes_from.new.cells ≡ rest_at l =
    rw c.bytes_from.ensures (front_bytes l _ 14 n (omega (arith, few)) (rw length-replicate (omega (arith, few))))
    ∙ ap (λ (k : ℕ). bytes_from l 14 k) c.rest_len-n.ensures in
    rw e at c.write.ensures
