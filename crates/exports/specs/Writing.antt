-- A bank that is written, for other languages: entries come as bytes. Assumes nothing.
use Rattle.std.specs.Prelude.{ℕ, ◌/◌, List, ◌++◌, length, drop}
use Rattle.error.specs.Told.{Told, value, and_then}
use Rattle.bank_writer.specs.Bytes.{entries_from}
use Rattle.bank_writer.specs.Refusals.{bank_given}

-- the bank of the entries in some bytes, thirteen each
abbrev pub bank_from : List ℕ → List ℕ → List ℕ → ℕ → Told (List ℕ)
bank_from header entries payloads room = bank_given header (entries_from entries) (length entries / 13) payloads room

-- the cells with the bank in front, and its length
abbrev pub bank_told : List ℕ → Told (List ℕ) → Told (List ℕ × ℕ)
bank_told cells t = and_then t (λ bytes. value (bytes ++ drop (length bytes) cells, length bytes))
