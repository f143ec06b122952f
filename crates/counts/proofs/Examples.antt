-- Some counts by trying every list, computed. Assumes nothing.
use mathlib.Core.Path.{◌≡◌, refl}
use mathlib.Core.List.{flat_map}
use Rattle.error.specs.Told.{value, refused}
use Rattle.counts.specs.Counts.{fronts, lists, how_many, turned_away, counted_by, uncounted, counted}

-- Three requests of priority 0, 1 or 2 to two voices. One of priority 1 is refused after the 3 × 2 × 2 lists with one 0 and the 2 × 2 × 2 with none.
two-voices : counted 2 3 3 1 ≡ value (record { refused = 20; accepted = 7 })
unfolding counted uncounted counted_by turned_away how_many lists fronts flat_map
two-voices = refl

-- of one priority alone, nobody is turned out
one-priority : counted 1 1 1 0 ≡ value (record { refused = 1; accepted = 0 })
unfolding counted uncounted counted_by turned_away how_many lists fronts flat_map
one-priority = refl

no-voice : counted 0 2 2 1 ≡ value (record { refused = 4; accepted = 0 })
unfolding counted uncounted counted_by turned_away how_many lists fronts flat_map
no-voice = refl

no-request : counted 1 4 0 3 ≡ value (record { refused = 0; accepted = 1 })
unfolding counted uncounted counted_by turned_away how_many lists fronts flat_map
no-request = refl

-- each bound of 22 by itself
no-priority : counted 1 0 0 0 ≡ refused 22
unfolding counted uncounted
no-priority = refl

five-priorities : counted 16 5 8 3 ≡ refused 22
unfolding counted uncounted
five-priorities = refl

nine-requests : counted 16 4 9 3 ≡ refused 22
unfolding counted uncounted
nine-requests = refl

seventeen-voices : counted 17 4 8 3 ≡ refused 22
unfolding counted uncounted
seventeen-voices = refl

fifth-priority : counted 16 4 8 4 ≡ refused 22
unfolding counted uncounted
fifth-priority = refl
