-- Answers to the goals that the check of `marks_after` leaves open.
use Rattle.std.proofs.Common.{◌≡◌, Bool, true, false, cond, List, Option, Some, None, Vec, option_map, refl, ap, sym, ◌∙◌}
use Rattle.std.specs.Global.{Global}
use Rattle.history_spec.specs.Facts.{written_slots}
use Rattle.known_pages.specs.Alike.{marked}
use Rattle.known_pages.proofs.marks.marks_after.Goals as goal

if-some :
    (b : Bool) (o : Option (Vec Bool Global)) (m : Vec Bool Global)
    → cond b o None ≡ Some m → (b ≡ true) × (o ≡ Some m)
if-some true o m is = (refl, is)
if-some false o m is = cc

pub returns-in-Some-clause-marks : goal.returns-in-Some-clause-marks
returns-in-Some-clause-marks c =
    let both =
    if-some c.args.in_place c.args.marks c.in-Some.marks (sym c.marks_if.ensures ∙ c.in-Some.is) in
    let place = c.requires both.0 in
    record {
      marks = c.in-Some.marks.items;
      were = ap (option_map (λ v. v.items)) both.1;
      in_place = place;
      after_both =
          c.with_written.ensures
          ∙ ap (λ (l : List Bool). marked l (written_slots c.args.rec.now))
          (c.with_old.ensures place.history place.record_there place.goes_by place.there);
    }
