-- The bank is the only layout of its kind. Assumes nothing.
use Prim.Native.Nat.{ℕ, zero, suc, ◌+◌, ◌*◌, ◌/◌, ◌%◌, ◌≤◌, ◌<◌}
use native.Mathlib.Nat.{lt_irrefl}
use native.Mathlib.Omega.{arith}
use mathlib.Core.Path.{◌≡◌, refl, sym, ap, ◌∙◌}
use mathlib.Core.List.{List, [], ◌∷◌}
use lib.ListN.{length, get_or, take, drop, length-drop, take-append-drop, drop_of_length-le}
use lib.Seq.{ext_get_or, length-take-le, get_or-take, get_or-drop, drop-drop, take-add}
use Rattle.error.proofs.Told.{value-is, not-refused}
use Rattle.error.specs.Told.{Told, value, refused, and_then}
use Rattle.tier.specs.declared.EffectKind.{EffectKind}
use Rattle.tier.specs.declared.EffectKind.TheVariants as K
use Rattle.tier.specs.Kinds.{kind_of, byte_of}
use Rattle.laws.specs.Lists.{All}
use Rattle.laws.proofs.Lists.{all-get}
use Rattle.bank.specs.declared.EffectEntry.{EffectEntry}
use Rattle.bank.proofs.Steps.{Known, known, unknown}
use Rattle.bank.specs.Entries.{byte_at, little16_at, little32_at, place_of, id_at, kind_byte, fields_at, entry_at}
use Rattle.bank_writer.specs.declared.NewEntry.{NewEntry}
use Rattle.bank_writer.specs.Order.{Part, InOrder, no_entry, no_part}
use Rattle.bank_writer.specs.Layout.{entry_bytes, table, payloads_of, entries_of, laid_out, bank_bytes}
use Rattle.bank_writer.specs.Refusals.{total_of}
use Rattle.bank_writer.specs.Reading.{read_as, Holds}
use Rattle.bank_writer.proofs.Order.{Apart, only-order, same-all}
use Rattle.bank_writer.proofs.Pairs.{total-nil, total-cons}
use Rattle.bank_writer.proofs.Written.{length-table, laid-is}
use Rattle.bank_writer.proofs.Reading.{table-cell, entries_at, length-entries}

-- ---- a kind has one byte

kind-byte : (n : ℕ) (x : EffectKind) → kind_of n ≡ value x → n ≡ byte_of x
unfolding kind_of
kind-byte zero x e = let q : K.Tone ≡ x = cc in rw (← q)
kind-byte (suc zero) x e = let q : K.Wavetable ≡ x = cc in rw (← q)
kind-byte (suc (suc zero)) x e = let q : K.Fm ≡ x = cc in rw (← q)
kind-byte (suc (suc (suc zero))) x e = let q : K.Pcm8 ≡ x = cc in rw (← q)
kind-byte (suc (suc (suc (suc zero)))) x e = let q : K.Adpcm ≡ x = cc in rw (← q)
kind-byte (suc (suc (suc (suc (suc zero))))) x e = let q : K.SigmaDeltaBits ≡ x = cc in rw (← q)
kind-byte (suc (suc (suc (suc (suc (suc n)))))) x e =
    let u = unknown (suc (suc (suc (suc (suc (suc n)))))) (omega arith) in
    let z : ◌≡◌ {A = ℕ} 0 1 = cc in
    absurd (lt_irrefl 0 (omega arith))

-- ---- the bytes of a number

split16 : (lo hi x : ℕ) → lo + 256 * hi ≡ x → lo < 256 → hi < 256 → (lo ≡ x % 256) × (hi ≡ x / 256 % 256)
split16 lo hi x e h k = (omega arith, omega arith)

split32 : (a b c d x : ℕ) → a + 256 * b + 65536 * (c + 256 * d) ≡ x → a < 256 → b < 256 → c < 256 → d < 256
    → (a ≡ x % 256) × (b ≡ x / 256 % 256) × (c ≡ x / 65536 % 256) × (d ≡ x / 65536 / 256 % 256)
split32 a b c d x e h i j k =
    let low : a + 256 * b ≡ x % 65536 = omega arith in
    let high : c + 256 * d ≡ x / 65536 = omega arith in
    let s = split16 c d (x / 65536) high j k in
    (omega arith, omega arith, s.0, s.1)

small : (bytes : List ℕ) → All (λ b. b < 256) bytes → (m : ℕ) → get_or bytes m 0 < 256
small [] a m = omega arith
small (b ∷ bytes) a zero = a.0
small (b ∷ bytes) a (suc m) = small bytes a.1 m

-- ---- an entry's cells, from what is read of it

record Fields (bytes : List ℕ) (k : ℕ) (e : NewEntry) (o : ℕ) : Type 0 where
  id : id_at bytes k ≡ e.id
  kind : kind_byte bytes k ≡ e.kind
  flags : byte_at bytes (place_of k + 3) ≡ e.flags
  gain : byte_at bytes (place_of k + 4) ≡ e.default_gain_q8
  param0 : little16_at bytes (place_of k + 6) ≡ e.param0
  param1 : little16_at bytes (place_of k + 8) ≡ e.param1
  offset : little32_at bytes (place_of k + 10) ≡ o
  len : little16_at bytes (place_of k + 14) ≡ e.len

fields : (bytes : List ℕ) (k : ℕ) (e : NewEntry) (o : ℕ) → e.kind ≤ 5 → entry_at bytes k ≡ read_as e o (kind_of e.kind) → Fields bytes k e o
unfolding entry_at fields_at
fields bytes k e o h r = by (kind_of (kind_byte bytes k)) refl (r ∙ rw x.same)
  where
    x : Known e.kind
    x = known e.kind h

    by : (y : Told EffectKind) → kind_of (kind_byte bytes k) ≡ y → and_then y (λ z. value (fields_at bytes k z)) ≡ read_as e o (value x.kind) → Fields bytes k e o
    by (refused n) f g = not-refused (sym g)
    by (value y) f g =
        let v = value-is g in
        let same : y ≡ x.kind = ap (λ (z : EffectEntry). z.kind) v in
        record {
          id = ap (λ (z : EffectEntry). z.id) v;
          kind = kind-byte (kind_byte bytes k) y f ∙ ap byte_of same ∙ sym (kind-byte e.kind x.kind x.same);
          flags = ap (λ (z : EffectEntry). z.flags) v;
          gain = ap (λ (z : EffectEntry). z.default_gain_q8) v;
          param0 = ap (λ (z : EffectEntry). z.param0) v;
          param1 = ap (λ (z : EffectEntry). z.param1) v;
          offset = ap (λ (z : EffectEntry). z.offset) v;
          len = ap (λ (z : EffectEntry). z.len) v;
        }

module _ (bytes : List ℕ) (all : All (λ b. b < 256) bytes) (k : ℕ) (e : NewEntry) (o : ℕ) (f : Fields bytes k e o) (unread : byte_at bytes (place_of k + 5) ≡ 0) where
  below : (m : ℕ) → byte_at bytes m < 256
  below m = small bytes all m

  ids : (byte_at bytes (place_of k) ≡ e.id % 256) × (byte_at bytes (place_of k + 1) ≡ e.id / 256 % 256)
  ids = split16 (byte_at bytes (place_of k)) (byte_at bytes (place_of k + 1)) e.id f.id (below (place_of k)) (below (place_of k + 1))

  firsts : (byte_at bytes (place_of k + 6) ≡ e.param0 % 256) × (byte_at bytes (place_of k + 6 + 1) ≡ e.param0 / 256 % 256)
  firsts = split16 (byte_at bytes (place_of k + 6)) (byte_at bytes (place_of k + 6 + 1)) e.param0 f.param0 (below (place_of k + 6)) (below (place_of k + 6 + 1))

  seconds : (byte_at bytes (place_of k + 8) ≡ e.param1 % 256) × (byte_at bytes (place_of k + 8 + 1) ≡ e.param1 / 256 % 256)
  seconds = split16 (byte_at bytes (place_of k + 8)) (byte_at bytes (place_of k + 8 + 1)) e.param1 f.param1 (below (place_of k + 8)) (below (place_of k + 8 + 1))

  lens : (byte_at bytes (place_of k + 14) ≡ e.len % 256) × (byte_at bytes (place_of k + 14 + 1) ≡ e.len / 256 % 256)
  lens = split16 (byte_at bytes (place_of k + 14)) (byte_at bytes (place_of k + 14 + 1)) e.len f.len (below (place_of k + 14)) (below (place_of k + 14 + 1))

  offsets :
      (byte_at bytes (place_of k + 10) ≡ o % 256) × (byte_at bytes (place_of k + 10 + 1) ≡ o / 256 % 256)
      × (byte_at bytes (place_of k + 10 + 2) ≡ o / 65536 % 256) × (byte_at bytes (place_of k + 10 + 2 + 1) ≡ o / 65536 / 256 % 256)
  offsets =
      split32 (byte_at bytes (place_of k + 10)) (byte_at bytes (place_of k + 10 + 1)) (byte_at bytes (place_of k + 10 + 2)) (byte_at bytes (place_of k + 10 + 2 + 1)) o f.offset
      (below (place_of k + 10)) (below (place_of k + 10 + 1)) (below (place_of k + 10 + 2)) (below (place_of k + 10 + 2 + 1))

  cell : (j : ℕ) → j < 16 → get_or bytes (place_of k + j) 0 ≡ get_or (entry_bytes e o) j 0
  unfolding entry_bytes
  cell zero h = let z : place_of k + 0 ≡ place_of k = omega arith in rw z ids.0
  cell (suc zero) h = ids.1
  cell (suc (suc zero)) h = f.kind
  cell (suc (suc (suc zero))) h = f.flags
  cell (suc (suc (suc (suc zero)))) h = f.gain
  cell (suc (suc (suc (suc (suc zero))))) h = unread
  cell (suc (suc (suc (suc (suc (suc zero)))))) h = firsts.0
  cell (suc (suc (suc (suc (suc (suc (suc zero))))))) h = let z : place_of k + 7 ≡ place_of k + 6 + 1 = omega arith in rw z firsts.1
  cell (suc (suc (suc (suc (suc (suc (suc (suc zero)))))))) h = seconds.0
  cell (suc (suc (suc (suc (suc (suc (suc (suc (suc zero))))))))) h = let z : place_of k + 9 ≡ place_of k + 8 + 1 = omega arith in rw z seconds.1
  cell (suc (suc (suc (suc (suc (suc (suc (suc (suc (suc zero)))))))))) h = offsets.0
  cell (suc (suc (suc (suc (suc (suc (suc (suc (suc (suc (suc zero))))))))))) h = let z : place_of k + 11 ≡ place_of k + 10 + 1 = omega arith in rw z offsets.1
  cell (suc (suc (suc (suc (suc (suc (suc (suc (suc (suc (suc (suc zero)))))))))))) h = let z : place_of k + 12 ≡ place_of k + 10 + 2 = omega arith in rw z offsets.2
  cell (suc (suc (suc (suc (suc (suc (suc (suc (suc (suc (suc (suc (suc zero))))))))))))) h = let z : place_of k + 13 ≡ place_of k + 10 + 2 + 1 = omega arith in rw z offsets.3
  cell (suc (suc (suc (suc (suc (suc (suc (suc (suc (suc (suc (suc (suc (suc zero)))))))))))))) h = lens.0
  cell (suc (suc (suc (suc (suc (suc (suc (suc (suc (suc (suc (suc (suc (suc (suc zero))))))))))))))) h = let z : place_of k + 15 ≡ place_of k + 14 + 1 = omega arith in rw z lens.1
  cell (suc (suc (suc (suc (suc (suc (suc (suc (suc (suc (suc (suc (suc (suc (suc (suc j)))))))))))))))) h = absurd (lt_irrefl 0 (omega arith))

-- ---- the payloads, one behind the other

rest : (s : List Part) (off : ℕ) (bytes : List ℕ) → length bytes ≡ off + total_of (entries_of s)
    → ((k : ℕ) → k < length s → take (get_or s k no_part).entry.len (drop (off + total_of (take k (entries_of s))) bytes) ≡ (get_or s k no_part).payload)
    → drop off bytes ≡ payloads_of s
unfolding payloads_of
rest [] off bytes n f = drop_of_length-le bytes {i = off} (omega (arith, total-nil))
rest (p ∷ s) off bytes n f =
    let z : off + total_of [] ≡ off = omega (arith, total-nil) in
    let first : take p.entry.len (drop off bytes) ≡ p.payload = rw z at (f 0 (omega arith)) in
    let others : drop (off + p.entry.len) bytes ≡ payloads_of s =
    rest s (off + p.entry.len) bytes (omega (arith, total-cons p.entry (entries_of s)))
    (λ k h.
    let y : off + total_of (p.entry ∷ take k (entries_of s)) ≡ off + p.entry.len + total_of (take k (entries_of s)) = omega (arith, total-cons p.entry (take k (entries_of s))) in
    rw y at (f (suc k) (omega arith)))
    in
    sym (take-append-drop p.entry.len (drop off bytes)) ∙ rw (first, drop-drop p.entry.len off bytes, others)

-- ---- the whole

module _ (header : List ℕ) (s : List Part) (bytes : List ℕ) (kinds : All (λ p. p.entry.kind ≤ 5) s) (holds : Holds header s bytes) where
  held-cell : (k j : ℕ) → k < length s → j < 16 → get_or bytes (place_of k + j) 0 ≡ get_or (entry_bytes (get_or (entries_of s) k no_entry) (place_of (length s) + total_of (take k (entries_of s)))) j 0
  held-cell k j h l =
      let e = (get_or s k no_part).entry in
      let o = place_of (length s) + total_of (take k (entries_of s)) in
      rw (entries_at s k)
      (cell bytes holds.cells k e o (fields bytes k e o (all-get (λ p. p.entry.kind ≤ 5) s k no_part kinds h) (holds.entry k h)) (holds.unread k h) j l)

  long : place_of (length s) ≤ length bytes
  long = omega (arith, holds.size)

  middle : take (16 * length s) (drop 10 bytes) ≡ table (place_of (length s)) (entries_of s)
  middle =
      ext_get_or 0 (take (16 * length s) (drop 10 bytes)) (table (place_of (length s)) (entries_of s)) (size ∙ sym (length-table (place_of (length s)) (entries_of s) ∙ ap (λ (m : ℕ). 16 * m) (length-entries s))) each
    where
      size : length (take (16 * length s) (drop 10 bytes)) ≡ 16 * length s
      size = length-take-le (16 * length s) (drop 10 bytes) (rw length-drop (omega (arith, long)))

      each : (q : ℕ) → q < length (take (16 * length s) (drop 10 bytes)) → get_or (take (16 * length s) (drop 10 bytes)) q 0 ≡ get_or (table (place_of (length s)) (entries_of s)) q 0
      each q h =
          let w : q < 16 * length s = omega (arith, size) in
          let k = q / 16 in
          let j = q % 16 in
          let z : q ≡ 16 * (q / 16) + q % 16 = omega arith in
          let y : 10 + q ≡ place_of (q / 16) + q % 16 = omega arith in
          let m = length-entries s in
          get_or-take (16 * length s) (drop 10 bytes) q 0 w ∙ get_or-drop 10 bytes q 0
          ∙ ap (λ (m : ℕ). get_or bytes m 0) y
          ∙ held-cell (q / 16) (q % 16) (omega arith) (omega arith)
          ∙ sym (table-cell (place_of (length s)) (entries_of s) (q / 16) (q % 16) (omega arith) (omega arith))
          ∙ ap (λ (m : ℕ). get_or (table (place_of (length s)) (entries_of s)) m 0) (sym z)

  pub only-layout : bytes ≡ laid_out header s
  only-layout =
      sym (take-append-drop (place_of (length s)) bytes)
      ∙ rw (take-add 10 (16 * length s) bytes, holds.head, middle, rest s (place_of (length s)) bytes holds.size holds.payload, laid-is header s)

-- Bytes that hold the given entries by rising id are the bank.
pub only-bank : (header : List ℕ) {given sorted : List Part} {bytes : List ℕ} → Apart given → All (λ p. p.entry.kind ≤ 5) given → InOrder given sorted → Holds header sorted bytes
    → bytes ≡ bank_bytes header given
only-bank header {given} {sorted} {bytes} a k o h =
    only-layout header sorted bytes (same-all (λ p. p.entry.kind ≤ 5) o.same k) h ∙ ap (λ (s : List Part). laid_out header s) (only-order a o)
