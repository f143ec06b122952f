-- `replay_dump::put_running` meets its contract: two texts, one after the other.
use borrow.Author.Rules.{rules}
use mathlib.Core.Path.{◌≡◌, refl}
use native.Mathlib.Omega.{arith}
use mir.Syntax.{w32, w64}
use mir.Val.{of_z}
use Rattle.hex_digits.proofs.Bits.{back}
use Rattle.hex_digits.proofs.Texts.{shown-four, then}
use Rattle.replay_dump.proofs.put_running.Goals as goal

pub returns : goal.returns
returns c =
    let m = c.args.m.mapper in
    let e1 = c.e1 in
    let e2 = c.e2 in
    let w1 = c.from-2 in
    let w2 = c.from-3 in
    let sum : c.cast_unsigned-sum.result ≡ of_z w64 m.sigma_delta.integrator =
    cc (back w32 m.sigma_delta.integrator (search rules), back w64 c.from.result c.from.type_inv) in
    let one : c.cast_unsigned-e1.result ≡ of_z w64 m.sigma_delta_2nd.e1 = cc (back w32 e1.result e1.type_inv, back w64 w1.result w1.type_inv) in
    let two : c.cast_unsigned-e2.result ≡ of_z w64 m.sigma_delta_2nd.e2 = cc (back w32 e2.result e2.type_inv, back w64 w2.result w2.type_inv) in
    let first = shown-four refl c.mode_number.ensures sum one c.put_four-n.ensures.0 in
    let second = shown-four two refl refl c.flag_number.ensures c.put_four.ensures.0 in
    (then first second, omega (arith, c.put_four.ensures.1, c.put_four-n.ensures.1))
