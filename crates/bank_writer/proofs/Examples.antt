-- One bank, worked out: a bell of id 7 and a chime of id 3, given in this order, with the payloads 65 66 and 67. Assumes nothing.
use Prim.Native.Nat.{ℕ}
use mathlib.Core.Path.{◌≡◌, refl}
use mathlib.Core.List.{List, [], ◌∷◌, ◌++◌}
use Rattle.error.specs.Told.{value, refused}
use Rattle.bank_writer.specs.declared.NewEntry.{NewEntry}
use Rattle.bank_writer.specs.Order.{paired, inserted, by_id}
use Rattle.bank_writer.specs.Layout.{entry_bytes, table, payloads_of, laid_out}
use Rattle.bank_writer.specs.Refusals.{some_of, total_of, share_id, barred, bank_given}

abbrev header : List ℕ
header = 66 ∷ 65 ∷ 78 ∷ 75 ∷ 1 ∷ 0 ∷ 2 ∷ 0 ∷ 128 ∷ 62 ∷ []

abbrev bell : NewEntry
bell = record { id = 7; kind = 0; flags = 1; default_gain_q8 = 200; param0 = 440; param1 = 500; len = 2 }

abbrev chime : NewEntry
chime = record { id = 3; kind = 2; flags = 0; default_gain_q8 = 255; param0 = 880; param1 = 300; len = 1 }

pub record Worked : Type 0 where
  -- the chime stands first, and its payload too
  pub bank :
      bank_given header (bell ∷ chime ∷ []) 2 (65 ∷ 66 ∷ 67 ∷ []) 45
      ≡ value
      (header
      ++ (3 ∷ 0 ∷ 2 ∷ 0 ∷ 255 ∷ 0 ∷ 112 ∷ 3 ∷ 44 ∷ 1 ∷ 42 ∷ 0 ∷ 0 ∷ 0 ∷ 1 ∷ 0 ∷ [])
      ++ (7 ∷ 0 ∷ 0 ∷ 1 ∷ 200 ∷ 0 ∷ 184 ∷ 1 ∷ 244 ∷ 1 ∷ 43 ∷ 0 ∷ 0 ∷ 0 ∷ 2 ∷ 0 ∷ [])
      ++ (67 ∷ 65 ∷ 66 ∷ []))
  -- a buffer of one cell fewer
  pub short : bank_given header (bell ∷ chime ∷ []) 2 (65 ∷ 66 ∷ 67 ∷ []) 44 ≡ refused 14
  -- one byte fewer, the same id twice, and 65 entries: 13 also where there is no room
  pub fewer : bank_given header (bell ∷ chime ∷ []) 2 (65 ∷ 66 ∷ []) 0 ≡ refused 13
  pub twice : bank_given header (bell ∷ bell ∷ []) 2 (65 ∷ 66 ∷ 65 ∷ 66 ∷ []) 0 ≡ refused 13
  pub many : bank_given header (bell ∷ chime ∷ []) 65 (65 ∷ 66 ∷ 67 ∷ []) 0 ≡ refused 13
  -- a bank of no entries is its header
  pub none : bank_given header [] 0 [] 10 ≡ value header

pub worked : Worked
unfolding bank_given barred some_of total_of share_id by_id inserted paired laid_out table entry_bytes payloads_of
worked = record { bank = refl; short = refl; fewer = refl; twice = refl; many = refl; none = refl }
