-- `render_texts::decimal` meets its contract: each turn puts a digit before those that stand.
use Rattle.std.proofs.Common.{sym, arith}
use Rattle.std.proofs.lemmas.List.{drop-set}
use lib.ListN.{length-set, drop_of_length-le}
use Rattle.render_texts.proofs.Spelling.{last, put, fewer}
use Rattle.render_texts.proofs.decimal.Goals as goal

pub loop-rest-init : goal.loop-rest-init
loop-rest-init c = record {
  digits = rw (c.digit.ensures, drop-set c.args.digits.now 19 _ (omega arith), drop_of_length-le c.args.digits.now {i = 20} (omega arith)) (sym (last 19 c.args.n));
  places = omega arith;
  length = rw length-set c.told-digits;
  at = omega arith;
}

pub loop-rest-preserved : goal.loop-rest-preserved
loop-rest-preserved c =
    let l = c.loop-rest in
    record {
      digits = rw (c.digit-in-loop-rest.ensures, put l.digits l.at l.rest c.loop-rest-test.true l.invariant.places (omega arith)) l.invariant.digits;
      places = fewer l.at l.rest c.loop-rest-test.true l.invariant.places;
      length = rw length-set l.invariant.length;
      at = omega arith;
    }
