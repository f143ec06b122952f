-- The calls of the box of the present rules that are made for other languages (`exports_parts`). Assumes nothing.
use Rattle.entering.specs.declared.Lined.{Lined}
use Rattle.error.specs.Told.{Told}
use Rattle.sounder.specs.Calls.{Outcome, opened, banked, poly_bleped, panned}
use Rattle.sounder.specs.Frames.{frames}
use Rattle.sounder.specs.Requests.{player}
use Rattle.sounder.specs.Sounders.{After}
use Rattle.exports_parts.specs.Plays.{Calls, told_box}

abbrev pub told : After Outcome → Told Lined
told x = told_box x.gave x.lined

abbrev pub calls : Calls Lined Lined
calls =
    record {
      opened = λ n config policy. told (opened n config policy);
      banked = λ s rate count len. told (banked s rate count len);
      player = player;
      poly_bleped = poly_bleped;
      panned = panned;
      state = λ s. s;
      frames = frames;
    }
