-- `bank_writer::write_bank` meets its contract: its tests are the definition's, in its order, and what is written one after another is the bank.
-- ---- what each test tells
use Prim.Native.Nat.{ℕ, ◌+◌, ◌*◌, ◌≤◌}
use native.Mathlib.Omega.{arith}
use mathlib.Core.Path.{◌≡◌, sym, ap, ◌∙◌}
use mathlib.Core.Bool.{false}
use mathlib.Core.List.{List}
use lib.ListN.{length, take, get_or, length-map}
use lib.Seq.{length-take-le}
use Rattle.bank_writer.specs.declared.NewEntry.{NewEntry}
use Rattle.bank_writer.specs.Order.{paired}
use Rattle.bank_writer.specs.Layout.{bank_bytes}
use Rattle.bank_writer.specs.Refusals.{some_of, outside, total_of}
use Rattle.bank_writer.specs.Places.{ids_of, Listed, AllRanked, Starts}
use Rattle.bank_writer.proofs.Given.{shares}
use Rattle.bank_writer.proofs.Written.{Seen, too_many, some_out, not-adding, sharing, too_short, fitting, seen-sound, seen-length, seen-cut, seen-slices, laid, wrote-13, wrote-14, wrote-bank}
use Rattle.bank_writer.proofs.write_bank.Goals as goal

-- where the payloads end that are lent
ends : (es : List NewEntry) (starts : List ℕ) (count : ℕ) → length es ≡ 64 → count ≤ 64 → Starts es starts → get_or starts count 0 ≡ total_of (take count es)
ends es starts count w h b = b count (omega arith)

few : (es : List NewEntry) (ids : List ℕ) (count : ℕ) → length es ≡ 64 → count ≤ 64 → take count ids ≡ ids_of (take count es) → length (take count ids) ≡ count
few es ids count w h own =
    ap (λ (l : List ℕ). length l) own ∙ length-map (take count es) (λ (e : NewEntry). e.id) ∙ length-take-le count es (omega arith)

-- what is known once every test was passed but the room's
seen : (header : List ℕ) (es : List NewEntry) (count : ℕ) (payloads starts ids places : List ℕ)
    → length header ≡ 10 → length es ≡ 64 → count ≤ 64 → some_of outside (take count es) ≡ false
    → Starts es starts → get_or starts count 0 ≡ length payloads
    → Listed es count ids → AllRanked (take count ids) places
    → Seen header es count payloads starts places
seen header es count payloads starts ids places ten all h inside begins adds i o =
    record {
      ten = ten;
      all = all;
      few = h;
      inside = inside;
      begins = begins;
      adds = sym (ends es starts count all h begins) ∙ adds;
      ranked = rw (few es ids count all h i.own, i.own) at o.ranked;
      long = o.size;
    }

-- ---- refusals
pub returns-then-count-gt-MAX_ENTRIES : goal.returns-then-count-gt-MAX_ENTRIES
returns-then-count-gt-MAX_ENTRIES c =
    let a = c.args in wrote-13 a.out.now (too_many a.header a.entries a.count a.payloads.now (length a.out.now) c.if-count-gt-MAX_ENTRIES.true)

pub returns-then-some_outside : goal.returns-then-some_outside
returns-then-some_outside c =
    let a = c.args in
    wrote-13 a.out.now (some_out a.header a.entries a.count a.payloads.now (length a.out.now) c.if-count-gt-MAX_ENTRIES.false (sym c.some_outside.ensures ∙ c.if-some_outside.true))

pub returns-then-starts-count : goal.returns-then-starts-count
returns-then-starts-count c =
    let a = c.args in
    wrote-13 a.out.now (not-adding a.header a.entries a.count a.payloads.now (length a.out.now) c.if-count-gt-MAX_ENTRIES.false (sym c.some_outside.ensures ∙ c.if-some_outside.false) (λ e. c.if-starts-count.true (ends a.entries c.starts_of-starts.result a.count c.well_formed.1.0.1.0.1 c.if-count-gt-MAX_ENTRIES.false c.starts_of-starts.ensures ∙ e)))

pub order_of-requires : goal.order_of-requires
order_of-requires c =
    let i = c.ids_of-ids.ensures in
    (c.if-count-gt-MAX_ENTRIES.false, i.past)

pub returns-in_default : goal.returns-in_default
returns-in_default c =
    let a = c.args in
    wrote-13 a.out.now
    (sharing a.header a.entries a.count a.payloads.now (length a.out.now) c.if-count-gt-MAX_ENTRIES.false (sym c.some_outside.ensures ∙ c.if-some_outside.false) (sym (ends a.entries c.starts_of-starts.result a.count c.well_formed.1.0.1.0.1 c.if-count-gt-MAX_ENTRIES.false c.starts_of-starts.ensures) ∙ c.if-starts-count.false)
    (shares (take a.count a.entries) (rw (c.ids_of-ids.ensures.own) at c.in_default.ensures)))

pub returns-then-end-out : goal.returns-then-end-out
returns-then-end-out c =
    let a = c.args in
    let s = seen a.header a.entries a.count a.payloads.now c.starts_of-starts.result c.ids_of-ids.result c.in-Some.places c.well_formed.0.1.0.1 c.well_formed.1.0.1.0.1 c.if-count-gt-MAX_ENTRIES.false (sym c.some_outside.ensures ∙ c.if-some_outside.false) c.starts_of-starts.ensures c.if-starts-count.false c.ids_of-ids.ensures c.in-Some.ensures in
    let n = seen-length a.header a.entries a.count a.payloads.now _ _ s in
    wrote-14 a.out.now
    (too_short a.header a.entries a.count a.payloads.now (length a.out.now) s.few (seen-sound a.header a.entries a.count a.payloads.now _ _ s) (omega (arith, c.if-end-out.true, n)))

-- ---- the bank
pub put_entries-requires : goal.put_entries-requires
put_entries-requires c =
    let a = c.args in
    let s = seen a.header a.entries a.count a.payloads.now c.starts_of-starts.result c.ids_of-ids.result c.in-Some.places c.well_formed.0.1.0.1 c.well_formed.1.0.1.0.1 c.if-count-gt-MAX_ENTRIES.false (sym c.some_outside.ensures ∙ c.if-some_outside.false) c.starts_of-starts.ensures c.if-starts-count.false c.ids_of-ids.ensures c.in-Some.ensures in (
      s.few,
      omega (arith, s.few, s.long),
      λ k h. (seen-cut a.header a.entries a.count a.payloads.now _ _ s k h).0,
      omega (arith, c.if-end-out.false, c.put.auto.out),
    )

pub put_payloads-requires : goal.put_payloads-requires
put_payloads-requires c =
    let a = c.args in
    let s = seen a.header a.entries a.count a.payloads.now c.starts_of-starts.result c.ids_of-ids.result c.in-Some.places c.well_formed.0.1.0.1 c.well_formed.1.0.1.0.1 c.if-count-gt-MAX_ENTRIES.false (sym c.some_outside.ensures ∙ c.if-some_outside.false) c.starts_of-starts.ensures c.if-starts-count.false c.ids_of-ids.ensures c.in-Some.ensures in record { count_bound = (s.few, omega (arith, s.few, s.long), λ k h. seen-cut a.header a.entries a.count a.payloads.now _ _ s k h); places_in_bounds = omega (arith, c.if-end-out.false, c.put_entries.auto.out, c.put.auto.out, seen-slices a.header a.entries a.count a.payloads.now _ _ s) }

pub returns : goal.returns
returns c =
    let a = c.args in
    let s = seen a.header a.entries a.count a.payloads.now c.starts_of-starts.result c.ids_of-ids.result c.in-Some.places c.well_formed.0.1.0.1 c.well_formed.1.0.1.0.1 c.if-count-gt-MAX_ENTRIES.false (sym c.some_outside.ensures ∙ c.if-some_outside.false) c.starts_of-starts.ensures c.if-starts-count.false c.ids_of-ids.ensures c.in-Some.ensures in
    let n = seen-length a.header a.entries a.count a.payloads.now _ _ s in
    let w : length (bank_bytes a.header (paired (take a.count a.entries) a.payloads.now)) ≤ length a.out.now = omega (arith, c.if-end-out.false, n) in
    wrote-bank
    (bank_bytes a.header (paired (take a.count a.entries) a.payloads.now))
    a.out.now
    c.put_payloads.new.out
    (10 + 16 * a.count + length a.payloads.now)
    (fitting a.header a.entries a.count a.payloads.now (length a.out.now) s.few (seen-sound a.header a.entries a.count a.payloads.now _ _ s) w)
    (sym n)
    (rw (c.put_payloads.ensures, c.put_entries.ensures, c.put.ensures) (laid a.header a.entries a.count a.payloads.now _ _ s a.out.now w))
