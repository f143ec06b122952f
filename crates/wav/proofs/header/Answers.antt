-- `wav::header` meets its contract: each number is laid after the one before, and all of them are the header.
use borrow.Author.Tests.{le-leb, lt-leb}
use Prim.Native.Nat.{◌+◌, ◌*◌}
use native.Mathlib.Omega.{arith}
use mathlib.Core.Path.{◌≡◌}
use mathlib.Core.Bool.{true}
use Rattle.wav.specs.Wav.{wav_fits, header_of}
use Rattle.wav.proofs.Numbers.{laid}
use Rattle.wav.proofs.header.Goals as goal

pub returns-in_err-second : goal.returns-in_err-second
unfolding header_of
returns-in_err-second c = rw (lt-leb (4 * c.args.sample_rate_hz) 0xFFFF_FFFF (omega (arith, c.in_err-second.ensures))) c.from_residual.ensures

pub returns-in_err-all : goal.returns-in_err-all
unfolding header_of
returns-in_err-all c =
    let a = c.args in
    rw (le-leb (4 * a.sample_rate_hz) 0xFFFF_FFFF (omega (arith, c.in_ok-second.ensures)), lt-leb (36 + 4 * a.frames) 0xFFFF_FFFF (omega (arith, c.in_err-all.ensures))) c.from_residual-in_err-all.ensures

pub returns-in_err-rest : goal.returns-in_err-rest
unfolding header_of
returns-in_err-rest c =
    let a = c.args in
    rw (le-leb (4 * a.sample_rate_hz) 0xFFFF_FFFF (omega (arith, c.in_ok-second.ensures)), lt-leb (36 + 4 * a.frames) 0xFFFF_FFFF (omega (arith, c.in_ok-all.ensures, c.in_err-rest.ensures))) c.from_residual-in_err-rest.ensures

pub returns : goal.returns
unfolding header_of
returns c =
    let a = c.args in
    let fits : wav_fits a.sample_rate_hz a.frames ≡ true = rw (le-leb (4 * a.sample_rate_hz) 0xFFFF_FFFF (omega (arith, c.in_ok-second.ensures)), le-leb (36 + 4 * a.frames) 0xFFFF_FFFF (omega (arith, c.in_ok-all.ensures, c.in_ok-rest.ensures))) in
    rw (fits, laid a.sample_rate_hz a.frames c.in_ok-second.ensures.1 c.in_ok-all.ensures.1 c.in_ok-rest.ensures.1 c.put.ensures (rw c.to_le_bytes.ensures at c.put-2.ensures) c.put-3.ensures c.put-4.ensures (rw c.to_le_bytes-2.ensures at c.put-5.ensures) (rw c.to_le_bytes-3.ensures at c.put-6.ensures) (rw c.to_le_bytes-4.ensures at c.put-7.ensures) (rw c.to_le_bytes-5.ensures at c.put-8.ensures) (rw c.to_le_bytes-6.ensures at c.put-9.ensures) (rw c.to_le_bytes-7.ensures at c.put-10.ensures) (rw c.to_le_bytes-8.ensures at c.put-11.ensures) c.put-12.ensures (rw c.to_le_bytes-9.ensures at c.put-13.ensures))
