-- The keys after a voice was started. Assumes nothing.
use Prim.Native.Nat.{ℕ, zero, suc, ◌+◌, ◌-◌, ◌*◌, ◌%◌, ◌≤◌, ◌<◌}
use native.Mathlib.Nat.{mul-add-mod_self_right, mod-eq_of_lt}
use native.Mathlib.Omega.{arith}
use mathlib.Core.Path.{◌≡◌, refl, ap, sym, ◌∙◌}
use mathlib.Core.Bool.{Bool, true, false, cond, ◌&&◌}
use mathlib.Core.List.{List, [], ◌∷◌, map}
use borrow.Author.Tests.{lt-ltb, le-ltb, ltb-true, ltb-false, eqb-true, eqb-false, ne_eqb}
use lib.Dec.{ltb, eqb}
use lib.ListN.{length, get_or, set, length-set, length-map, get_or-map}
use lib.Seq.{ext_get_or, get_or-set_same, get_or-set_other}
use Rattle.marks.specs.Marks.{nothing, rank_at, heard_at, settled_marks}
use Rattle.marks.specs.Steps.{aged, renewed}
use Rattle.marks.specs.declared.Mark.{Mark}
use Rattle.marks.proofs.Laws.{rank-few, none_beside}
use Rattle.marks.proofs.Starts.{map-set}
use Rattle.marks.proofs.Ranks.{number}
use Rattle.marks.proofs.Steps.{renewed-length, renewed-other, renewed-rank}
use Rattle.voice.specs.Voices.{audible, silent_voice}
use Rattle.voice.specs.declared.Voice.{Voice}
use Rattle.allocate.specs.Allocation.{with_ranks}
use Rattle.allocate.specs.Keys.{key_of, age_of, aged_key, keys_of, rank_in, limit_of, lowered, sounding_after, rekeyed}
use Rattle.allocate.proofs.Keyed.{ranks-length, ranks-at, plain-keys}

pub keys_length : (b : Bool) (vs : List Voice) (ks : List Mark) → length (keys_of b vs ks) ≡ length vs
keys_length b vs ks = length-map (with_ranks vs ks) (aged_key b) ∙ ranks-length vs ks

get-mapped : (b : Bool) (xs : List (Voice × ℕ)) (j : ℕ) → j < length xs → get_or (map (aged_key b) xs) j 0 ≡ aged_key b (get_or xs j (silent_voice 0, 255))
get-mapped b [] j g = absurd (omega arith)
get-mapped b (x ∷ xs) zero g = refl
get-mapped b (x ∷ xs) (suc j) g = get-mapped b xs j (omega arith)

keys-at : (b : Bool) (vs : List Voice) (ks : List Mark) (i : ℕ) → i < length vs → i < length ks
    → get_or (keys_of b vs ks) i 0 ≡ key_of (age_of b (rank_at ks i)) (get_or vs i (silent_voice 0))
keys-at b vs ks i h l =
    get-mapped b (with_ranks vs ks) i (omega (arith, ranks-length vs ks)) ∙ ap (aged_key b) (ranks-at vs ks i (silent_voice 0) nothing h l)

-- the key of a voice that sounds
started-key : (v : Voice) (r : ℕ) → audible v ≡ true → 32 * v.priority + suc r ≡ key_of r v
started-key v r a = rw a (omega arith)

-- document 01's keys hang on the voices alone
pub plain-rekeyed : (vs : List Voice) (ks ls : List Mark) (i : ℕ) (v : Voice) → audible v ≡ true → rekeyed false i v.priority 1 (keys_of false vs ks) ≡ keys_of false (set vs i v) ls
plain-rekeyed vs ks ls i v a =
    rw (started-key v 0 a)
    (ap (λ (keys : List ℕ). set keys i (key_of 0 v)) (plain-keys vs ks) ∙ sym (map-set (key_of 0) vs i v) ∙ sym (plain-keys (set vs i v) ls))

-- ---- one key
-- an age below 31 can be read off, one up
key-age : (a r : ℕ) → r < 31 → suc (a * 32 + r) % 32 ≡ suc r
key-age a r h =
    let e : suc (a * 32 + r) ≡ a * 32 + suc r = omega arith in
    rw e (mul-add-mod_self_right a 32 (suc r) ∙ mod-eq_of_lt {n = suc r} {m = 32} (omega arith))

limit-free : (v : Voice) (r : ℕ) → audible v ≡ false → limit_of (key_of r v) ≡ 32
limit-free v r e = rw e

limit-taken : (v : Voice) (r : ℕ) → audible v ≡ true → r < 16 → limit_of (key_of r v) ≡ suc r
limit-taken v r e h = rw (e, key-age v.priority r (omega arith)) (omega arith)

lower-free : (limit : ℕ) (v : Voice) (r s : ℕ) → audible v ≡ false → lowered limit (key_of r v) ≡ key_of s v
lower-free limit v r s e = rw (e, le-ltb limit (0 % 32) (omega arith))

-- a key moves down where its age is above the limit
lower-moves : (limit : ℕ) (v : Voice) (r : ℕ) → audible v ≡ true → r < 16 → limit < suc r → 1 ≤ r → lowered limit (key_of r v) ≡ key_of (r - 1) v
lower-moves limit v r e h l o =
    let k = key-age v.priority r (omega arith) in
    rw (e, k, lt-ltb limit (suc r) l) (omega arith)

lower-stays : (limit : ℕ) (v : Voice) (r : ℕ) → audible v ≡ true → r < 16 → suc r ≤ limit → lowered limit (key_of r v) ≡ key_of r v
lower-stays limit v r e h l =
    let k = key-age v.priority r (omega arith) in
    rw (e, k, le-ltb limit (suc r) l)

heard-here : (vs : List Voice) (i : ℕ) → i < length vs → heard_at (map audible vs) i ≡ audible (get_or vs i (silent_voice 0))
heard-here [] i h = absurd (omega arith)
heard-here (v ∷ vs) zero h = refl
heard-here (v ∷ vs) (suc i) h = heard-here vs i (omega arith)

-- ---- by the present rules, beside settled marks
module _ (vs : List Voice) (ks : List Mark) (i : ℕ) (e : length vs ≡ 16) (f : length ks ≡ 16) (q : settled_marks (map audible vs) ks ≡ ks) (l : i < 16) where
  abbrev keys : List ℕ
  keys = keys_of true vs ks

  abbrev old : Voice
  old = get_or vs i (silent_voice 0)

  heard-full : length (map audible vs) ≡ 16
  heard-full = length-map vs audible ∙ e

  few : (j : ℕ) → j < 16 → audible (get_or vs j (silent_voice 0)) ≡ true → rank_at ks j < 16
  few j h a = rank-few (map audible vs) ks heard-full f q j (heard-here vs j (omega arith) ∙ a)

  -- a key has its mark's rank
  pub rank-back : rank_in (get_or keys i 0) ≡ rank_at ks i
  rank-back = rw (keys-at true vs ks i (omega arith) (omega arith)) (by-voice (audible old) refl)
    where
      by-voice : (t : Bool) → audible old ≡ t → rank_in (key_of (rank_at ks i) old) ≡ rank_at ks i
      by-voice true a =
          let r = few i l a in
          rw (a, key-age old.priority (rank_at ks i) (omega arith)) (omega arith)
      by-voice false a =
          let n : get_or ks i nothing ≡ nothing = none_beside (map audible vs) ks heard-full f q i (heard-here vs i (omega arith) ∙ a) in
          rw a (sym (ap (λ (k : Mark). k.rank) n))

  -- a voice started there is younger than all the others
  pub sounding-rank : sounding_after true (number (map audible vs)) (get_or keys i 0) ≡ suc (rank_at (renewed i ks) i)
  sounding-rank = rw (keys-at true vs ks i (omega arith) (omega arith)) (by-voice (audible old) refl)
    where
      by-voice : (t : Bool) → audible old ≡ t → sounding_after true (number (map audible vs)) (key_of (rank_at ks i) old) ≡ suc (rank_at (renewed i ks) i)
      by-voice true a =
          let h : heard_at (map audible vs) i ≡ true = heard-here vs i (omega arith) ∙ a in
          rw (a, ne_eqb (suc (old.priority * 32 + rank_at ks i)) 0 (λ z. omega arith)) (omega (arith, rw h at (renewed-rank (map audible vs) ks i heard-full f q l)))
      by-voice false a =
          let h : heard_at (map audible vs) i ≡ false = heard-here vs i (omega arith) ∙ a in
          rw a (omega (arith, rw h at (renewed-rank (map audible vs) ks i heard-full f q l)))

  limit : ℕ
  limit = limit_of (get_or keys i 0)

  -- the rank that the start leaves, and its key
  moved-key : (j : ℕ) → j < 16 → lowered limit (get_or keys j 0) ≡ key_of (aged (rank_at ks i) (get_or ks j nothing)).rank (get_or vs j (silent_voice 0))
  unfolding limit
  moved-key j h =
      rw (keys-at true vs ks j (omega arith) (omega arith), keys-at true vs ks i (omega arith) (omega arith))
      (by-voices (audible old) (audible (get_or vs j (silent_voice 0))) refl refl)
    where
      w : Voice
      w = get_or vs j (silent_voice 0)

      r : ℕ
      r = rank_at ks j

      by-voices : (s t : Bool) → audible old ≡ s → audible w ≡ t → lowered (limit_of (key_of (rank_at ks i) old)) (key_of r w) ≡ key_of (aged (rank_at ks i) (get_or ks j nothing)).rank w
      by-voices s false a b = lower-free (limit_of (key_of (rank_at ks i) old)) w r (aged (rank_at ks i) (get_or ks j nothing)).rank b
      by-voices false true a b =
          let n : get_or ks i nothing ≡ nothing = none_beside (map audible vs) ks heard-full f q i (heard-here vs i (omega arith) ∙ a) in
          let z : rank_at ks i ≡ 255 = ap (λ (k : Mark). k.rank) n in
          let y = few j h b in
          rw (limit-free old (rank_at ks i) a, le-ltb (rank_at ks i) r (omega arith)) (lower-stays 32 w r b y (omega arith))
      by-voices true true a b =
          let x = few i l a in
          let y = few j h b in
          rw (limit-taken old (rank_at ks i) a x, lt-ltb r 16 y) (by-age y (ltb (rank_at ks i) r) refl)
        where
          by-age : r < 16 → (t : Bool) → ltb (rank_at ks i) r ≡ t → lowered (suc (rank_at ks i)) (key_of r w) ≡ key_of (cond (t && true) (record { whole = (get_or ks j nothing).whole; rank = r - 1 }) (get_or ks j nothing)).rank w
          by-age y true p = let o = ltb-true (rank_at ks i) r p in lower-moves (suc (rank_at ks i)) w r b y (omega arith) (omega arith)
          by-age y false p = let o = ltb-false (rank_at ks i) r p in lower-stays (suc (rank_at ks i)) w r b y (omega arith)

  pub rekeyed-keys : (v : Voice) → audible v ≡ true → rekeyed true i v.priority (suc (rank_at (renewed i ks) i)) keys ≡ keys_of true (set vs i v) (renewed i ks)
  unfolding limit
  rekeyed-keys v a =
      rw (started-key v (rank_at (renewed i ks) i) a)
      (ext_get_or 0 (set (map (lowered limit) keys) i (key_of (rank_at (renewed i ks) i) v)) (keys_of true (set vs i v) (renewed i ks))
      (length-set (map (lowered limit) keys) i (key_of (rank_at (renewed i ks) i) v) ∙ long ∙ sym (keys_length true (set vs i v) (renewed i ks) ∙ length-set vs i v ∙ e))
      (λ j h. by_place j (below-sixteen j h) (eqb j i) refl))
    where
      long : length (map (lowered limit) keys) ≡ 16
      long = length-map keys (lowered limit) ∙ keys_length true vs ks ∙ e

      below-sixteen : (j : ℕ) → j < length (set (map (lowered limit) keys) i (key_of (rank_at (renewed i ks) i) v)) → j < 16
      below-sixteen j h = omega (arith, h, length-set (map (lowered limit) keys) i (key_of (rank_at (renewed i ks) i) v), long)

      after : (j : ℕ) → j < 16 → get_or (keys_of true (set vs i v) (renewed i ks)) j 0 ≡ key_of (rank_at (renewed i ks) j) (get_or (set vs i v) j (silent_voice 0))
      after j h = keys-at true (set vs i v) (renewed i ks) j (omega (arith, length-set vs i v)) (omega (arith, renewed-length i ks))

      lowered-at : (j : ℕ) → j < 16 → get_or (map (lowered limit) keys) j 0 ≡ lowered limit (get_or keys j 0)
      lowered-at j h = ap (λ (d : ℕ). get_or (map (lowered limit) keys) j d) (sym none-lower) ∙ get_or-map (lowered limit) keys j 0
        where
          none-lower : lowered limit 0 ≡ 0
          none-lower = rw (le-ltb limit (0 % 32) (omega arith))

      by_place : (j : ℕ) → j < 16 → (t : Bool) → eqb j i ≡ t
          → get_or (set (map (lowered limit) keys) i (key_of (rank_at (renewed i ks) i) v)) j 0 ≡ get_or (keys_of true (set vs i v) (renewed i ks)) j 0
      by_place j h true p =
          rw (eqb-true j i p)
          (get_or-set_same (map (lowered limit) keys) i (key_of (rank_at (renewed i ks) i) v) 0 (omega (arith, long))
          ∙ sym (after i l ∙ ap (key_of (rank_at (renewed i ks) i)) (get_or-set_same vs i v (silent_voice 0) (omega arith))))
      by_place j h false p =
          let n = eqb-false j i p in
          get_or-set_other (map (lowered limit) keys) i j (key_of (rank_at (renewed i ks) i) v) 0 n
          ∙ lowered-at j h
          ∙ moved-key j h
          ∙ sym
          (after j h
          ∙ ap (key_of (rank_at (renewed i ks) j)) (get_or-set_other vs i j v (silent_voice 0) n)
          ∙ ap (λ (k : Mark). key_of k.rank (get_or vs j (silent_voice 0))) (renewed-other i ks j n))
