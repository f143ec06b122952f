-- What a call that wrote a bank tells, as a number and cells. Assumes nothing.
use Rattle.std.specs.Prelude.{Err, Ok, Result}
use Prim.Native.Nat.{ℕ}
use mathlib.Core.Path.{refl, sym, ap}
use mathlib.Core.List.{List}
use Rattle.error.specs.Numbers.{number_of}
use Rattle.error.specs.Told.{Told, told, value, refused, number_in}
use Rattle.error.specs.declared.AudioError.{AudioError}
use Rattle.error.proofs.Told.{value-is, not-refused}
use Rattle.bank_writer.specs.Refusals.{Wrote}
use Rattle.exports_parts.specs.Told.{Answers}
use Rattle.exports.specs.Writing.{bank_told}

banked-refused : {t : Told (List ℕ)} {before after : List ℕ} {e : AudioError} (len : ℕ) → Wrote t before after (Err e) → Answers (bank_told before t) (before, len) (number_of e) (after, len)
banked-refused {t = value bytes} len w = not-refused (sym w.answer)
banked-refused {t = refused n} len w = record { number = ap number_in w.answer; cells = rw w.cells }

banked-length : {t : Told (List ℕ)} {before after : List ℕ} {n : ℕ} (len : ℕ) → Wrote t before after (Ok n) → Answers (bank_told before t) (before, len) 0 (after, n)
banked-length {t = value bytes} len w = record { number = refl; cells = rw (w.cells, value-is w.answer) }
banked-length {t = refused n} len w = not-refused w.answer

pub banked : {t : Told (List ℕ)} {before after : List ℕ} {r : Result ℕ AudioError} {len n later : ℕ} → Wrote t before after r → Answers (told r) len n later
    → Answers (bank_told before t) (before, len) n (after, later)
banked {r = Err e} {len = len} w a = rw (a.number, a.cells) (banked-refused len w)
banked {r = Ok k} {len = len} w a = rw (a.number, a.cells) (banked-length len w)
