-- What a call that wrote a bank tells of it. Assumes nothing.
use Prim.Native.Nat.{ℕ}
use mathlib.Core.Path.{◌≡◌, refl, sym, ap}
use mathlib.Core.List.{List}
use lib.ListN.{length}
use Rattle.error.specs.Numbers.{number_of}
use Rattle.error.specs.Told.{Told, value, refused, number_in}
use Rattle.error.specs.declared.AudioError.{AudioError}
use Rattle.error.proofs.Told.{value-is, not-refused}
use Rattle.std.specs.Prelude.{Ok, Err}
use Rattle.bank_writer.specs.Refusals.{Wrote}

pub wrote-refused : {bank : Told (List ℕ)} {before after : List ℕ} {e : AudioError} → Wrote bank before after (Err e) → bank ≡ refused (number_of e)
wrote-refused {bank = value bytes} w = not-refused (sym w.answer)
wrote-refused {bank = refused n} w = ap refused (sym (ap number_in w.answer))

pub record Written (bank : Told (List ℕ)) (n : ℕ) : Type 0 where
  pub bytes : List ℕ
  pub told : bank ≡ value bytes
  pub size : n ≡ length bytes

pub wrote-length : {bank : Told (List ℕ)} {before after : List ℕ} {n : ℕ} → Wrote bank before after (Ok n) → Written bank n
wrote-length {bank = value bytes} w = record { bytes = bytes; told = refl; size = value-is w.answer }
wrote-length {bank = refused n} w = not-refused w.answer
