-- `lengths::total_in_samples` meets its contract.
use native.Mathlib.Omega.{arith}
use native.Mathlib.Nat.{zero-mul}
use native.Mathlib.Numerals.{add-one}
use Prim.Native.Nat.{ℕ, ◌+◌, ◌*◌, ◌/◌, ◌%◌, ◌<◌, min}
use mathlib.Core.Path.{◌≡◌}
use mathlib.Core.List.{List, []}
use borrow.Author.Tests.{lt-ltb, le-ltb}
use lib.ListN.{length, take, get_or}
use lib.Seq.{take_all}
use Rattle.lengths.specs.Lengths.{total_ms, total_of}
use Rattle.lengths.proofs.Laws.{total-step}
use Rattle.lengths.proofs.total_in_samples.Invariants.{Passed}
use Rattle.lengths.proofs.total_in_samples.Goals as goal

passed_none : (rate : ℕ) → Passed [] rate 0 0
unfolding total_ms
passed_none rate = record { samples = rw (zero-mul rate) (omega arith); rest = rw (zero-mul rate) (omega arith) }

-- thousandths in two parts, held
held : (a b m : ℕ) → min (min (a / 1000) m + (b + a % 1000) / 1000) m ≡ min ((a + b) / 1000) m
held a b m = omega arith

passed-one : (lengths : List ℕ) (rate i s r samples : ℕ) → Passed (take i lengths) rate s r → i < length lengths
    → samples ≡ min (s + (get_or lengths i 0 * rate + r) / 1000) 18446744073709551615
    → Passed (take (i + 1) lengths) rate samples ((get_or lengths i 0 * rate + r) % 1000)
passed-one lengths rate i s r samples p h e =
    rw add-one
    (record {
      samples = rw (e, p.samples, p.rest, held (total_ms (take i lengths) * rate) (get_or lengths i 0 * rate) 18446744073709551615, total-step lengths i rate h);
      rest = rw (p.rest, total-step lengths i rate h) (omega arith);
    })

pub returns-then-sample_rate_hz-gt65537 : goal.returns-then-sample_rate_hz-gt65537
returns-then-sample_rate_hz-gt65537 c = rw (lt-ltb _ _ c.if-sample_rate_hz-gt65537.true)

pub loop-ms-init : goal.loop-ms-init
loop-ms-init c = passed_none _

pub loop-ms-preserved : goal.loop-ms-preserved
loop-ms-preserved c =
    let e = c.thousandths-all.ensures.0 in
    rw (e, c.from.ensures)
    (passed-one _ _ c.loop-ms.ms-index c.loop-ms.samples c.loop-ms.remainder c.saturating_add-samples.result c.loop-ms.invariant c.loop-ms-test.true (rw (e, c.from.ensures) at c.saturating_add-samples.ensures))

pub returns : goal.returns
unfolding total_of
returns c =
    let l = c.loop-ms in
    let all : take l.ms-index c.args.lengths.now ≡ c.args.lengths.now = take_all l.ms-index c.args.lengths.now c.loop-ms-test.false in
    rw (le-ltb 65537 c.args.sample_rate_hz c.if-sample_rate_hz-gt65537.false, l.invariant.samples, l.invariant.rest, all)
