-- Pans set one after another: those that are left, from each turn on, give what all give. Assumes nothing.
use Prim.Native.Nat.{ℕ, ◌+◌, ◌≤◌, ◌<◌}
use mathlib.Core.Path.{◌≡◌, sym, ◌∙◌}
use mathlib.Core.List.{List}
use native.Mathlib.Numerals.{add-one}
use lib.ListN.{length, drop, get_or, drop_of_length-le}
use lib.Seq.{drop-cons}
use Rattle.exports_parts.specs.Plays.{Calls, panned_from}

module _ {Box State : Type 0} (b : Calls Box State) (pans : List ℕ) (first : Box) (i : ℕ) (s : Box) where
  abbrev pub Panning : Type 0
  Panning = panned_from b 0 pans first ≡ panned_from b i (drop i pans) s

  pub panning-turn : {next : Box} → Panning → i < length pans → next ≡ b.panned s i (get_or pans i 0)
      → panned_from b 0 pans first ≡ panned_from b (i + 1) (drop (i + 1) pans) next
  unfolding panned_from
  panning-turn p h q = rw add-one (p ∙ rw (drop-cons pans i 0 h, q))

  pub panning-end : Panning → length pans ≤ i → s ≡ panned_from b 0 pans first
  unfolding panned_from
  panning-end p h = sym (p ∙ rw (drop_of_length-le pans h))
