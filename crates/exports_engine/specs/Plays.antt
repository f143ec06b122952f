-- The calls of document 01's box that are made for the comparison of speed (`exports_parts`). Assumes nothing.
use Rattle.buffers.specs.Shapes.{mixer_frames}
use Rattle.engine.specs.Requests.{player}
use Rattle.error.specs.Told.{Told}
use Rattle.mixer.specs.Mixers.{opened, banked, panned}
use Rattle.mixer.specs.declared.Changed.{Changed}
use Rattle.mixer.specs.declared.Mixer.{Mixer}
use Rattle.play.specs.Plays.{poly_bleped}
use Rattle.exports_parts.specs.Plays.{Calls, told_box}

abbrev pub told : Changed → Told Mixer
told c = told_box c.outcome c.mixer

abbrev pub calls : Calls Mixer Mixer
calls =
    record {
      opened = λ n config policy. told (opened n config policy);
      banked = λ m rate count len. told (banked m rate count len);
      player = player;
      poly_bleped = poly_bleped;
      panned = panned;
      state = λ m. m;
      frames = λ bytes. mixer_frames;
    }
